mod Places
mod Starting
