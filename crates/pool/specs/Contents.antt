-- What a pool means: the pool of the model, with the caps on what it uses of what it is lent.
use Rattle.std.specs.Prelude.{ℕ, min, List, length, take, drop, Some, None, Ok, Err, Option, Result}
use Rattle.model.specs.Contents as Model
use Rattle.pool.specs.Pieces.{pieces}
use Rattle.pool.specs.declared.answers.Content.{Content}
use Rattle.pool.specs.declared.answers.Found.{Found}
use Rattle.pool.specs.declared.answers.Put.{Put}
use Rattle.pool.specs.declared.answers.NoRoom.{NoRoom}
use Rattle.pool.specs.declared.holder.Pool.{Pool}

-- the contents that the places of a pool give
abbrev pub held : Pool → List (List ℕ)
held p = pieces p.bytes.now p.count p.places.now

-- the model's pool that a pool stands for
abbrev pub meant : Pool → Model.Pool
meant p = record { contents = held p; places = min (length p.places.now) 1024; room = min (length p.bytes.now) 65536 }

-- the bytes of a content that is handed out
abbrev pub shown : Content → List ℕ
shown c = c.bytes.now

-- the part of the pool's bytes that has a length and starts at a byte
abbrev pub part : Pool → ℕ → ℕ → List ℕ
part p start len = take len (drop start p.bytes.now)

-- the number that putting a content answers, 0 if it is refused
abbrev pub number_told : Result Put NoRoom → ℕ
number_told (Ok p) = p.number
number_told (Err e) = 0

-- the number that looking for a content answers, 0 if it is not found
abbrev pub number_found : Option Found → ℕ
number_found (Some f) = f.number
number_found None = 0
