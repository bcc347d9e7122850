-- Request 10. No path that a walk works with has more than 852 bytes (framing/proofs/LongestPath): a walk over broken tables is refused before it
-- makes one. So no refusal for a path is needed, and 852 bytes for each leaf are room for all paths.
use Rattle.std.specs.Prelude.{if◌then◌else◌}
use mathlib.Core.Path.{◌≡◌, refl, sym, subst}
use mathlib.Core.Bool.{Bool, true, false, not}
use mathlib.Core.List.{List}
use Prim.Native.Nat.{ℕ, ◌*◌, ◌≤◌}
use native.Mathlib.Omega.{arith}
use lib.Dec.{ltb}
use Rattle.bits.specs.Sizes.{longest_window, longest_path}
use Rattle.schema.specs.Tables.{Tables, absent}
use Rattle.schema.specs.Layout.{laid_out}
use Rattle.schema.proofs.LaidLaws.{labels_lie}
use Rattle.framing.specs.Events.{leaves}
use Rattle.framing.specs.Counters.{counters, padded_in}
use Rattle.framing.specs.Paths.{PathFits, working_paths}
use Rattle.framing.specs.Sinks.{Walker, struct, exact, object, declared_only, walk}
use Rattle.framing.specs.Refusing.{Room, no_room_lem, needed, within, Answer, refused, accepted, decided}
use Rattle.framing.specs.GrammarRules.{Each}
use Rattle.framing.proofs.LongestPath.{Labelled, walk_short, leaves_short}
use Rattle.outputs.specs.Answers.{Call, Lent, laid, trace_of, room_of, answer}
use Rattle.outputs.proofs.ShortPaths.{laid_labelled, object_labelled, path_bound}
use Rattle.array.specs.Calls.{struct_call, exact_call, Decodes}
use Rattle.array.specs.Refusals.{StructArray, answer_of}
use Rattle.exports.specs.WalkResults.{Walks, walk_result}
use Rattle.exports.specs.declared.VrfWalk.{VrfWalk}
use Rattle.promises.specs.Paths.{PathsFit, PathsFitInC}

-- ---- every working path: of elements and arrays that are entered, of leaves, of kept tails, of arrays that are too deep

-- of a struct walk over tables that keep their layout
pub working_struct : (t : Tables) (levels root : ℕ) → laid_out t levels root ≡ true → (bytes : List ℕ) (bits : ℕ) → Each PathFits (working_paths (walk (struct t root) bytes bits))
working_struct t levels root good bytes bits = walk_short (struct t root) (λ leafy. labels_lie t levels root good) bytes bits

-- of an exact walk
pub working_exact : (declared declared_names_lem : List ℕ) → laid_out (declared_only declared declared_names_lem) 0 absent ≡ true → (bytes : List ℕ) (bits : ℕ)
    → Each PathFits (working_paths (walk (exact declared declared_names_lem) bytes bits))
working_exact declared declared_names_lem good bytes bits =
    walk_short (exact declared declared_names_lem) (λ leafy. labels_lie (declared_only declared declared_names_lem) 0 absent good) bytes bits

-- of an object walk, whose path is empty
pub working_object : (bytes : List ℕ) (bits : ℕ) → Each PathFits (working_paths (walk object bytes bits))
working_object bytes bits = walk_short object object_labelled bytes bits

-- ---- what an answer names

need_fits : (k : Walker) → Labelled k → (bytes : List ℕ) (bits : ℕ) → (needed (walk k bytes bits)).path_bytes_lem ≤ longest_path * (needed (walk k bytes bits)).leaves
unfolding needed
need_fits k labels bytes bits = path_bound (leaves (walk k bytes bits)) (leaves_short (walk k bytes bits) (walk_short k labels bytes bits))

answer_fits : (c : Call) (b : Lent) → PathsFit (answer c b)
unfolding answer decided
answer_fits c b = go (ltb longest_window c.bits) (laid c.how c.levels) refl (within (needed (trace_of c)) (room_of b))
  where
    go : (long : Bool) (good : Bool) → laid c.how c.levels ≡ good → (room : Bool)
        → PathsFit (if long then refused 1 no_room_lem else
        (if not good then refused 2 no_room_lem else (if not room then refused 3 (needed (trace_of c)) else accepted (counters (trace_of c)) (padded_in (trace_of c)) (needed (trace_of c)))))
    go true good e room = omega arith
    go false false e room = omega arith
    go false true e false = need_fits c.how (laid_labelled c.how c.levels e) c.bytes c.bits
    go false true e true = need_fits c.how (laid_labelled c.how c.levels e) c.bytes c.bits

-- A struct walk's answer names at most 852 path bytes for each leaf.
pub paths_decode_struct_array : (bytes : List ℕ) (bits : ℕ) (t : Tables) (levels root : ℕ) (b : Lent) (r : StructArray) (x : Lent)
    → Decodes (struct_call bytes bits t levels root) b r x → PathsFit (answer_of r)
paths_decode_struct_array bytes bits t levels root b r x f = subst PathsFit (sym f.answered.says) (answer_fits (struct_call bytes bits t levels root) b)

-- So does an exact walk's.
pub paths_decode_struct_array_exact : (bytes : List ℕ) (bits : ℕ) (declared declared_names_lem : List ℕ) (b : Lent) (r : StructArray) (x : Lent)
    → Decodes (exact_call bytes bits declared declared_names_lem) b r x → PathsFit (answer_of r)
paths_decode_struct_array_exact bytes bits declared declared_names_lem b r x f =
    subst PathsFit (sym f.answered.says) (answer_fits (exact_call bytes bits declared declared_names_lem) b)

-- ---- in C

in_c : (k : Walker) (bits : ℕ) (a : Answer Room) → PathsFit a → PathsFitInC (walk_result k bits a)
in_c k bits (refused n need) h = h
in_c k bits (accepted c p need) h = h

walks_fit : (c : Call) (b : Lent) (r : VrfWalk) (x : Lent) → Walks c b r x → PathsFitInC r
walks_fit c b r x f = subst PathsFitInC (sym f.says) (in_c c.how c.bits (answer c b) (answer_fits c b))

-- `vrf_struct_array` names at most 852 path bytes for each leaf.
pub paths_vrf_struct_array : (bytes : List ℕ) (bits : ℕ) (t : Tables) (levels root : ℕ) (b : Lent) (r : VrfWalk) (x : Lent)
    → Walks (struct_call bytes bits t levels root) b r x → PathsFitInC r
paths_vrf_struct_array bytes bits t levels root b r x f = walks_fit (struct_call bytes bits t levels root) b r x f

-- So does `vrf_struct_array_exact`.
pub paths_vrf_struct_array_exact : (bytes : List ℕ) (bits : ℕ) (declared declared_names_lem : List ℕ) (b : Lent) (r : VrfWalk) (x : Lent)
    → Walks (exact_call bytes bits declared declared_names_lem) b r x → PathsFitInC r
paths_vrf_struct_array_exact bytes bits declared declared_names_lem b r x f = walks_fit (exact_call bytes bits declared declared_names_lem) b r x f
