use Rattle.blif_elems.proofs.read.behind_keyword.Goals as goal

pub returns-in-Model : goal.returns-in-Model
returns-in-Model c = rw c.in-Model.is c.model.ensures

pub returns-in-Names : goal.returns-in-Names
returns-in-Names c = rw c.in-Names.is c.names.ensures

pub returns-in-Latch : goal.returns-in-Latch
returns-in-Latch c = rw c.in-Latch.is c.latch.ensures

pub returns-in-Subckt : goal.returns-in-Subckt
returns-in-Subckt c = rw c.in-Subckt.is c.subckt.ensures

pub returns-in-Param : goal.returns-in-Param
returns-in-Param c = rw c.in-Param.is c.param.ensures
