-- A record of the code with another standing.
use Rattle.model.specs.declared.record.Record.{Record}
use Rattle.model.specs.declared.record.Standing.{Standing}

abbrev pub stands_as : Standing → Record → Record
stands_as s r = record { command = r.command; reads = r.reads; count = r.count; write = r.write; standing = s }
