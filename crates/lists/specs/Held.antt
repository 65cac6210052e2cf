-- What a list over lent elements holds, and how much it can hold.
use Rattle.std.specs.Prelude.{ℕ, List, length, take}
use Rattle.lists.specs.declared.list.Lent.{Lent}

-- the first `len` of the lent elements; what lies past them is free
abbrev pub held : {T : Type 0} → Lent T → List T
held l = take l.len l.items.now

-- how many elements it can hold
abbrev pub room : {T : Type 0} → Lent T → ℕ
room l = length l.items.now
