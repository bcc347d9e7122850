-- A pair that fits is written by two stores, and one that does not is not written.
use mathlib.Core.Path.{sym}
use Rattle.bits.proofs.RunLaws.{store_out}
use Rattle.outputs.proofs.FitLaws.{fitting, past, pair_stores}
use Rattle.outputs.proofs.records.store_pair.Goals as goal

pub returns-then-not-fits : goal.returns-then-not-fits
returns-then-not-fits c = sym (store_out _ _ _ (past _ _ _ c.fits.ensures c.if-not-fits.true))

pub returns : goal.returns
returns c = pair_stores _ _ _ _ (fitting _ _ _ c.fits.ensures c.if-not-fits.false)
