-- What is proved of the table, and of what is computed.
use Rattle.proved_cases.proofs.Builds.{computes_builds}
use Rattle.proved_cases.proofs.Cases.{are_builds}
use Rattle.proved_cases.proofs.Computed.{as_expected}
use Rattle.proved_cases.proofs.cases_stand.Goals as goal

pub returns-clause-expected : goal.returns-clause-expected
returns-clause-expected c = as_expected

pub returns-clause-builds : goal.returns-clause-builds
returns-clause-builds c = are_builds

pub returns-clause-computed : goal.returns-clause-computed
returns-clause-computed c = computes_builds
