-- `floats::component` meets its contract: what `signed` and `nearest_i64_to_f64` ensure, one in the other.
use Rattle.std.proofs.Common.{pos, ap, ◌∙◌, to_z-of_z, w64}
use lib.Ieee.{Float, binary64, div, of_int}
use Rattle.floats.proofs.component.Goals as goal

pub returns : goal.returns
returns c =
    ap (λ (x : Float). div binary64 x (of_int binary64 (pos c.args.divisor)))
    (c.nearest_i64_to_f64.ensures ∙ ap (of_int binary64) (to_z-of_z {w = w64} (record { sfits = c.signed.type_inv }) ∙ c.signed.ensures))
