mod Folders
mod Meanings
mod Walks
