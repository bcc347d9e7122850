-- The path bytes of a walk: at most longest_path for each leaf, where its labels lie in their pools; and there they lie where its tables keep their
-- layout. An object walk has no leaves.
use Prim.Native.Nat.{ℕ, ◌*◌, ◌≤◌}
use mathlib.Core.Path.{◌≡◌}
use mathlib.Core.Bool.{true}
use mathlib.Core.List.{List, [], ◌∷◌}
use native.Mathlib.Omega.{arith}
use lib.ListN.{length, length-append}
use Rattle.bits.specs.Sizes.{longest_path}
use Rattle.bits.proofs.Never.{never}
use Rattle.schema.proofs.LaidLaws.{labels_lie}
use Rattle.framing.specs.Events.{Leaf}
use Rattle.framing.specs.declared.Walk.TheVariants as how
use Rattle.framing.specs.Sinks.{Walker, walker, object}
use Rattle.framing.specs.Records.{path_bytes_lem}
use Rattle.framing.specs.GrammarRules.{Each}
use Rattle.framing.specs.Paths.{PathFits}
use Rattle.framing.proofs.LongestPath.{Labelled}
use Rattle.outputs.specs.Answers.{laid}

pub laid_labelled : (k : Walker) (levels : ℕ) → laid k levels ≡ true → Labelled k
laid_labelled (walker how.Struct t root) levels good leafy = labels_lie t levels root good
laid_labelled (walker how.Exact t root) levels good leafy = labels_lie t levels root good
laid_labelled (walker how.Object t root) levels good leafy = never cc

pub object_labelled : Labelled object
object_labelled leafy = never cc

pub path_bound : (l : List Leaf) → Each (λ (x : Leaf). PathFits x.path) l → length (path_bytes_lem l) ≤ longest_path * length l
unfolding path_bytes_lem
path_bound [] h = omega arith
path_bound (x ∷ l) h = let z = path_bound l h.1 in let y = h.0 in let e = length-append x.path (path_bytes_lem l) in omega arith
