use Rattle.std.proofs.Common.{◌<◌, ◌≤◌, ℕ, List, Ok, length, arith, subst}
use Rattle.io_edge.specs.declared.file_map.Found.{Found}
use Rattle.io_edge.specs.Files.{Finds, FilesCount}
use Rattle.import_resolver.specs.Tables.{ReadsFile, asked_of}
use Rattle.import_resolver.proofs.Nexts.{count-read, next-full, next-missing, next-read}
use Rattle.import_resolver.proofs.steps.next_file.Goals as goal

pub returns-then-len-ge-MOST_FILES-clause-next : goal.returns-then-len-ge-MOST_FILES-clause-next
returns-then-len-ge-MOST_FILES-clause-next g c =
    next-full c.args.main.now (g.F.Files.held c.args.files.now) c.args.table.now (asked_of c.args.main.now c.args.table.now c.args.site) c.args.name.now c.refused.result c.requires.fresh
    (let full : 64 ≤ length c.args.table.now.files = omega arith in full) c.refused.ensures

pub returns-in-Ok-Missing-clause-next : goal.returns-in-Ok-Missing-clause-next
returns-in-Ok-Missing-clause-next g c =
    next-missing c.args.main.now (g.F.Files.held c.args.files.now) c.args.table.now (asked_of c.args.main.now c.args.table.now c.args.site) c.args.name.now c.refused-in-Ok-Missing.result c.requires.fresh
    (let few : length c.args.table.now.files < 64 = omega arith in few) c.requires.new
    (subst (λ (found : Found). Finds (g.F.Files.held c.args.files.now) c.args.name.now found) c.in-Ok-Missing.field-0-is c.in-Ok-Missing.ensures.found)
    c.refused-in-Ok-Missing.ensures

pub returns-in-Ok-Bytes-clause-next : goal.returns-in-Ok-Bytes-clause-next
returns-in-Ok-Bytes-clause-next g c =
    let found = subst (λ (found : Found). Finds (g.F.Files.held c.args.files.now) c.args.name.now found) c.in-Ok-Bytes.field-0-is c.in-Ok-Bytes.ensures.found in
    let reads : ReadsFile (length c.args.table.now.files) c.args.name.now c.in-Ok-Bytes.bytes.items c.read_file.result =
    subst (λ (bytes : List ℕ). ReadsFile (length c.args.table.now.files) c.args.name.now bytes c.read_file.result) c.as_slice.ensures.value
    (subst (λ (number : ℕ). ReadsFile number c.args.name.now c.as_slice.result.now c.read_file.result) c.len-number.ensures c.read_file.ensures) in
    next-read c.fronts_read.ensures.alike c.fronts_read.ensures.refused c.args.main.now (g.F.Files.held c.args.files.now) c.args.table.now (asked_of c.args.main.now c.args.table.now c.args.site) c.args.name.now
    c.in-Ok-Bytes.bytes.items c.read_file.result c.requires.fresh (let few : length c.args.table.now.files < 64 = omega arith in few) c.requires.new found.0 found.1 reads

pub returns-in-Ok-Bytes-clause-counted : goal.returns-in-Ok-Bytes-clause-counted
returns-in-Ok-Bytes-clause-counted g c =
    let counted = subst (λ (found : Found). FilesCount (Ok found) (g.F.Files.faults c.args.files.now) (g.F.Files.faults c.read.new.self) (g.F.Files.misses c.args.files.now) (g.F.Files.misses c.read.new.self))
    c.in-Ok-Bytes.field-0-is c.in-Ok-Bytes.ensures.counted in
    count-read c.reading_rules.ensures c.len-number.result c.args.name.now c.as_slice.result.now c.read_file.result (g.F.Files.faults c.args.files.now) (g.F.Files.faults c.read.new.self)
    (g.F.Files.misses c.args.files.now) (g.F.Files.misses c.read.new.self) c.read_file.ensures counted.0 counted.1
