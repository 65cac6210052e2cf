-- The first write, or nothing.
use Rattle.std.proofs.Common.{◌≡◌, rules, ap, ◌∙◌}
use Rattle.std.specs.Option.{option_map}
use Rattle.model.specs.Book.{use_of}
use Rattle.engine.proofs.Listing.{write_made}
use Rattle.engine.proofs.acts.Acts.write.Goals as goal

pub returns : goal.returns
returns c =
    let mapped : c.map.result ≡ option_map use_of c.find_write.result = search rules in
    write_made c.args.self.now.line c.args.self.now.entries.now c.map.result c.unwrap_or_default.result (mapped ∙ ap (option_map use_of) c.find_write.ensures) c.unwrap_or_default.ensures
