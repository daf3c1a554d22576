use Rattle.task_reach.specs.Reached.{IsBitOfPort}
use Rattle.task_reach.proofs.Growing.{IsGrown}
use Rattle.task_reach.proofs.conns.put_conn.Given as goal

abbrev pub invariant-loop-place : goal.invariant-loop-place
invariant-loop-place l = IsGrown l.fn.reached l.reached (IsBitOfPort l.graph l.kind l.conn l.leaf.0 l.ports) l.place
