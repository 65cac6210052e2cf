-- What is always so of a log, as one record.
use Rattle.runner.specs.Inner.{Kept}
use Rattle.runner.specs.declared.log.Log.{Log}

pub always : (l : Log) → Kept l.inner
always l = record { roomy = l.roomy; inside = l.inside; few = l.few; follows = l.follows }
