-- Weigh the events of a walk. A packed number takes eight bits and weighs at most 1, a leaf weighs its bits or 1, all else at most 1 or the bits
-- that it counts: so a walk of n bits weighs at most n, and what the event that ends a level weighs.
use Prim.Native.Nat.{ℕ, ◌+◌, ◌-◌, ◌≤◌}
use mathlib.Core.Path.{◌≡◌}
use mathlib.Core.List.{List, [], ◌∷◌, ◌++◌}
use native.Mathlib.Omega.{arith}
use Rattle.bits.specs.Packed.{Number}
use Rattle.schema.specs.Tables.{Tables}
use Rattle.schema.specs.Labels.{at_index}
use Rattle.framing.specs.Windows.{Window}
use Rattle.framing.specs.Events.{Leaf, Entered, Pair, Event, number, element, array, leaf, pair, truncation, error, implicit, nested, root, Trace}
use Rattle.framing.specs.Paths.{leaf_path, array_path}
use Rattle.framing.specs.Walk.{raw_leaf}
use Rattle.framing.specs.declared.Walk.TheVariants as how
use Rattle.framing.specs.Sinks.{leaf_of, entered_at, Walker, walker, walk}
use Rattle.framing.proofs.Induct.{Read}
use Rattle.framing.proofs.Lift.{anywhere, Property, Pieces, StructPieces, ObjectPieces, tables_of, KindPieces, walk_holds}

abbrev pub weigh : (Event → ℕ) → Trace → ℕ
weigh m [] = 0
weigh m (e ∷ t) = m e + weigh m t

weigh_append : (m : Event → ℕ) (a b : Trace) → weigh m (a ++ b) ≡ weigh m a + weigh m b
weigh_append m [] b = omega arith
weigh_append m (e ∷ a) b = let z = weigh_append m a b in omega arith

-- stop: what the events that end a level weigh at most
pub record Weights (m : Event → ℕ) (stop : ℕ) : Type 0 where
  pub number : (x : Number) → m (number x) ≤ 1
  pub element : (p : List ℕ) → m (element p) ≤ 1
  pub array : (a : Entered) → m (array a) ≡ 0
  pub leaf : (x : Leaf) (n : ℕ) → 1 ≤ n → x.width ≤ n → m (leaf x) ≤ n
  pub pair : (x : Pair) → m (pair x) ≤ 1
  pub nested : (n : ℕ) → m (nested n) ≤ n
  pub root : (n : ℕ) → m (root n) ≤ n
  pub truncation : m truncation ≤ stop
  pub error : m error ≤ stop
  pub implicit : m implicit ≤ stop
  pub light : stop ≤ 1

module _ (m : Event → ℕ) (stop : ℕ) (M : Weights m stop) where
  -- behind a field's two numbers there is room for two more
  abbrev weighs : Property
  weighs =
      record {
        Good = λ w path p q a. p + weigh m a ≤ q;
        Stop = λ w path place p a. p + weigh m a ≤ w.size + stop;
        Gave = λ h w a. weigh m a ≤ w.size + 2;
      }

  join_weights : (p q r : ℕ) (a b : Trace) → p + weigh m a ≤ q → q + weigh m b ≤ r → p + weigh m (a ++ b) ≤ r
  join_weights p q r a b f g = let z = weigh_append m a b in omega arith

  field_weight : (w : Window) (x y : Number) (p q r k : ℕ) (a : Trace) → Read w x p q → Read w y q r → weigh m a ≤ k + 2
      → p + weigh m (number x ∷ number y ∷ a) ≤ r + k
  field_weight w x y p q r k a s t h =
      let u = M.number x in let v = M.number y in let b = s.runs in let c = s.some in let d = t.runs in let e = t.some in omega arith

  pieces : Pieces weighs
  pieces =
      record {
        join = λ w path p q r a b f g. join_weights p q r a b f g;
        halt = λ w path place p q a b f g. join_weights p q (w.size + stop) a b f g;
        leave = λ w path place p a h. h;
        read = λ w path x p q r. let z = M.number x in let b = r.runs in omega arith;
        field = λ w path x y n p q r a says s t fit h. field_weight w x y p q r y.value a s t h;
        empty = λ h w e. omega arith;
        ended = λ w path place p e. let z = M.implicit in omega arith;
        failed = λ w path place p h. let z = M.error in omega arith;
        limited = λ w path place p e. let z = M.truncation in omega arith;
        left = λ w path p h. let z = M.root (w.size - p) in omega arith;
        silent = λ w path e. omega arith;
      }

  enter_weight : (w : Window) (x : Number) (path : List ℕ) (p q n : ℕ) (a : Trace) → Read w x p q → q + weigh m a ≤ n
      → p + weigh m (number x ∷ element path ∷ a) ≤ n
  enter_weight w x path p q n a r h = let z = M.number x in let y = M.element path in let b = r.runs in let c = r.some in omega arith

  struct_pieces : (t : Tables) → StructPieces t (anywhere t) weighs
  struct_pieces t =
      record {
        enter = λ w x i p q d path a r low at h. enter_weight w x (at_index path i) p q (w.size + stop) a r h;
        kept = λ w p d path place fit pos lt here.
            let z = M.leaf (raw_leaf w place p) (w.size - p) (omega arith) (omega arith) in
            let y = M.truncation in omega arith;
        deep = λ w lvl h path fit some here low.
            let z = M.leaf (leaf_of (array_path t lvl path h) h w) (w.size + 1) (omega arith) (omega arith) in
            let y = M.truncation in let l = M.light in omega arith;
        leaf = λ w d lvl h path fit here low.
            let z = M.leaf (leaf_of (leaf_path t lvl path h) h w) (w.size + 1) (omega arith) (omega arith) in
            omega arith;
        child = λ w d lvl h path a some here low g. let z = M.array (entered_at (array_path t lvl path h) w) in let l = M.light in omega arith;
        left = λ w path p h. let z = M.nested (w.size - p) in omega arith;
      }

  object_pieces : ObjectPieces weighs
  object_pieces =
      record {
        enter = λ w x p q a r h. enter_weight w x [] p q (w.size + stop) a r h;
        guid = λ h w x i r. let z = M.number x in let y = M.pair (record { index = i; guid = x.value }) in omega arith;
        longer = λ h w x q r. let z = M.number x in let y = M.error in let l = M.light in omega arith;
        unread = λ h w some. let y = M.error in let l = M.light in omega arith;
        passed = λ h w some. let y = M.nested w.size in omega arith;
        skipped = λ w place p h. let z = M.truncation in omega arith;
      }

  kind_pieces : (k : Walker) → KindPieces k (anywhere (tables_of k)) weighs
  kind_pieces (walker how.Struct t lvl) = struct_pieces t
  kind_pieces (walker how.Exact t lvl) = struct_pieces t
  kind_pieces (walker how.Object t lvl) = object_pieces

  pub walk_weight : (k : Walker) (bytes : List ℕ) (n : ℕ) → weigh m (walk k bytes n) ≤ n + stop
  walk_weight k bytes n =
      let z : 0 + weigh m (walk k bytes n) ≤ n + stop = walk_holds weighs pieces k (anywhere (tables_of k)) (kind_pieces k) bytes n tt in
      omega arith
