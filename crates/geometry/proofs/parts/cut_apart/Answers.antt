-- `geometry::parts::cut_apart` meets its contract: the three numbers are the fields of the one.
use Rattle.geometry.proofs.PartLaws.{apart_is}
use Rattle.geometry.proofs.parts.cut_apart.Goals as goal

pub returns : goal.returns
returns c = apart_is _ _ c.requires
