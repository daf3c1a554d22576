use Rattle.run_laws.proofs.Kept.{fetched_in_run, stops_in_run, fetched_once, fetched_where_there}
use Rattle.run_laws.proofs.fetches.fetch_laws.Goals as goal

pub returns-clause-fetched : goal.returns-clause-fetched
returns-clause-fetched c = fetched_in_run

pub returns-clause-stopped : goal.returns-clause-stopped
returns-clause-stopped c = stops_in_run

pub returns-clause-once : goal.returns-clause-once
returns-clause-once c = fetched_once

pub returns-clause-calm : goal.returns-clause-calm
returns-clause-calm c = fetched_where_there
