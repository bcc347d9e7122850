-- The sink of a walk: its ways out are those of its kind of walk, and what it makes of a field goes by what the field is.
use Rattle.std.specs.Prelude.{if◌then◌else◌}
use Rattle.std.proofs.Common.{◌≡◌, ℕ, Option, Some, None, zero, suc, ◌-◌, ◌<◌, Bool, true, false, eqb, List, [], ◌∷◌, sym, refl, ap, ◌∙◌, arith, ne_eqb}
use Rattle.bits.proofs.Never.{never}
use Rattle.schema.specs.Tables.{Tables, tables, look_ups, child}
use Rattle.schema.specs.Labels.{label_bytes, container_label_lem, leaf_label, LabelLies, dot}
use Rattle.schema.specs.declared.Label.{Label}
use Rattle.schema.specs.declared.Label.TheVariants as label
use Rattle.framing.specs.Windows.{Window}
use Rattle.framing.specs.Events.{array, leaf, nested, truncation, Trace}
use Rattle.framing.specs.Paths.{array_path}
use Rattle.framing.specs.Walk.{Sink, level, in_item}
use Rattle.framing.specs.Sinks.{entered_at, on_child, struct_sink, too_deep, leaf_of, takes_trailer_lem, gives_leaves_lem}
use Rattle.steps.specs.Views.{leftover_of, sink_for, exit_sink}
use Rattle.steps.specs.Paths.{pools, item_path}
use Rattle.steps.specs.Kinds.{kind_by, kind_of, KindLies}
use Rattle.steps.specs.Gives.{tagged_leaf, flat_field}
use Rattle.framing.specs.declared.Walk.{Walk}
use Rattle.framing.specs.declared.Walk.TheVariants as walk
use Rattle.steps.specs.declared.Kind.{Kind}
use Rattle.steps.specs.declared.Kind.TheVariants as kind
use Rattle.steps.proofs.CaseLaws.{NotArray}
use Rattle.steps.proofs.WalkLaws.{Alike}

-- ---- ways out

pub sink_alike : (s : Walk) (t : Tables) (below : ℕ) (inside : Bool) (lvl : ℕ) → Alike (sink_for s t below inside lvl) (exit_sink s inside)
unfolding sink_for struct_sink
sink_alike walk.Struct t zero inside lvl = record { trailer = refl; flattens = refl; leftover = refl }
sink_alike walk.Struct t (suc below) inside lvl = record { trailer = refl; flattens = refl; leftover = refl }
sink_alike walk.Exact t zero inside lvl = record { trailer = refl; flattens = refl; leftover = refl }
sink_alike walk.Exact t (suc below) inside lvl = record { trailer = refl; flattens = refl; leftover = refl }
sink_alike walk.Object t below inside lvl = record { trailer = refl; flattens = refl; leftover = refl }

pub item_path_lem : (s : Walk) (t : Tables) (below : ℕ) (inside : Bool) (lvl : ℕ) (path : List ℕ) (i : ℕ) → in_item (sink_for s t below inside lvl) path i ≡ item_path s path i
unfolding in_item
item_path_lem s t below inside lvl path i = rw (sink_alike s t below inside lvl).flattens

-- ---- what a label's bytes and place depend on

pub pool_bytes : (rows names declared declared_names_lem : List ℕ) (handle : ℕ) (x : Label) → label_bytes (pools names declared_names_lem) handle x ≡ label_bytes (tables rows names declared declared_names_lem) handle x
unfolding label_bytes
pool_bytes rows names declared declared_names_lem handle (label.Declared start len) = refl
pool_bytes rows names declared declared_names_lem handle (label.Named start len) = refl
pool_bytes rows names declared declared_names_lem handle label.Plain = refl

pub pool_lies : (rows names declared declared_names_lem : List ℕ) (x : Label) → LabelLies (tables rows names declared declared_names_lem) x → LabelLies (pools names declared_names_lem) x
unfolding LabelLies
pool_lies rows names declared declared_names_lem (label.Declared start len) h = h
pool_lies rows names declared declared_names_lem (label.Named start len) h = h
pool_lies rows names declared declared_names_lem label.Plain h = tt

-- what a field is depends on the rows and the declared handles: no pool of names decides it
pub kind_tables : (s : Walk) (rows names declared declared_names_lem : List ℕ) (below lvl handle width : ℕ)
    → kind_of s (look_ups rows declared) below lvl handle width ≡ kind_of s (tables rows names declared declared_names_lem) below lvl handle width
unfolding kind_of leaf_label container_label_lem
kind_tables s rows names declared declared_names_lem below lvl handle width = ap (λ (k : Kind). if gives_leaves_lem s then k else kind.Object) (go (child rows lvl handle))
  where
    go : (c : Option ℕ) → kind_by (look_ups rows declared) below lvl handle width c ≡ kind_by (tables rows names declared declared_names_lem) below lvl handle width c
    go None = refl
    go (Some lower) = refl

pub kind_lies : (s : Walk) (t : Tables) (below lvl handle width : ℕ) → ((l h : ℕ) → LabelLies t (leaf_label t l h)) → ((l h : ℕ) → LabelLies t (container_label_lem t l h))
    → KindLies t (kind_of s t below lvl handle width)
unfolding kind_of
kind_lies s t below lvl handle width leaves containers = by_walk (gives_leaves_lem s)
  where
    go2 : (lower : ℕ) (x y : Bool) → KindLies t (if x then kind.Nothing else (if y then kind.Deep (container_label_lem t lvl handle) else kind.Array lower (container_label_lem t lvl handle)))
    go2 lower true y = tt
    go2 lower false true = containers lvl handle
    go2 lower false false = containers lvl handle

    go : (c : Option ℕ) → KindLies t (kind_by t below lvl handle width c)
    go None = leaves lvl handle
    go (Some lower) = go2 lower (eqb width 0) (eqb below 0)

    by_walk : (b : Bool) → KindLies t (if b then kind_by t below lvl handle width (child t.rows lvl handle) else kind.Object)
    by_walk true = go (child t.rows lvl handle)
    by_walk false = tt

pub kind_pools : (rows names declared declared_names_lem : List ℕ) (k : Kind) → KindLies (tables rows names declared declared_names_lem) k → KindLies (pools names declared_names_lem) k
kind_pools rows names declared declared_names_lem kind.Object h = tt
kind_pools rows names declared declared_names_lem kind.Nothing h = tt
kind_pools rows names declared declared_names_lem (kind.Leaf x) h = pool_lies rows names declared declared_names_lem x h
kind_pools rows names declared declared_names_lem (kind.Deep x) h = pool_lies rows names declared declared_names_lem x h
kind_pools rows names declared declared_names_lem (kind.Array lower x) h = pool_lies rows names declared declared_names_lem x h

pub flat_pools : (rows names declared declared_names_lem : List ℕ) (i : ℕ) (path : List ℕ) (first : Bool) (handle : ℕ) (w : Window) (k : Kind)
    → flat_field (pools names declared_names_lem) i path first handle w k ≡ flat_field (tables rows names declared declared_names_lem) i path first handle w k
unfolding flat_field tagged_leaf
flat_pools rows names declared declared_names_lem i path first handle w kind.Object = refl
flat_pools rows names declared declared_names_lem i path first handle w kind.Nothing = refl
flat_pools rows names declared declared_names_lem i path first handle w (kind.Leaf x) = ap (λ (b : List ℕ). leaf (leaf_of (dot path b) handle w) ∷ []) (pool_bytes rows names declared declared_names_lem handle x)
flat_pools rows names declared declared_names_lem i path first handle w (kind.Deep x) = ap (λ (b : List ℕ). truncation ∷ leaf (leaf_of (dot path b) handle w) ∷ []) (pool_bytes rows names declared declared_names_lem handle x)
flat_pools rows names declared declared_names_lem i path first handle w (kind.Array lower x) = refl

-- ---- a field

-- an array that is walked: its trace, by the level under it
abbrev pub array_field : Walk → Tables → (below : ℕ) (path : List ℕ) (handle : ℕ) → Window → (lower : ℕ) → Label → Trace
array_field s t below path handle w lower x =
    array (entered_at (dot path (label_bytes t handle x)) w) ∷ level (sink_for s t (below - 1) true lower) w (dot path (label_bytes t handle x))

-- what a field gives goes by its kind
unfoldable pub by_kind : Walk → Tables → (below : ℕ) (i : ℕ) (path : List ℕ) (first : Bool) (handle : ℕ) → Window → Kind → Trace
by_kind s t below i path first handle w kind.Object = flat_field t i path first handle w kind.Object
by_kind s t below i path first handle w kind.Nothing = flat_field t i path first handle w kind.Nothing
by_kind s t below i path first handle w (kind.Leaf x) = flat_field t i path first handle w (kind.Leaf x)
by_kind s t below i path first handle w (kind.Deep x) = flat_field t i path first handle w (kind.Deep x)
by_kind s t below i path first handle w (kind.Array lower x) = array_field s t below path handle w lower x

-- the walks that give leaves
module _ (s : Walk) (leafy : gives_leaves_lem s ≡ true) (t : Tables) (lvl i : ℕ) (path : List ℕ) (first : Bool) (handle : ℕ) (w : Window) where
  leafy_kind : (below : ℕ) (inside : Bool) → (struct_sink below t (takes_trailer_lem s) (leftover_of inside) lvl).field i path first handle w
      ≡ by_kind s t below i path first handle w (kind_by t below lvl handle w.size (child t.rows lvl handle))
  unfolding sink_for struct_sink by_kind flat_field tagged_leaf
  leafy_kind zero inside = go (child t.rows lvl handle)
    where
      go : (c : Option ℕ) → on_child t lvl too_deep path handle w c ≡ by_kind s t 0 i path first handle w (kind_by t 0 lvl handle w.size c)
      go None = refl
      go (Some lower) = go2 (eqb w.size 0)
        where
          go2 : (x : Bool) → (if x then [] else too_deep lower (array_path t lvl path handle) handle w)
              ≡ by_kind s t 0 i path first handle w (if x then kind.Nothing else kind.Deep (container_label_lem t lvl handle))
          go2 true = refl
          go2 false = refl
  leafy_kind (suc n) inside = go (child t.rows lvl handle)
    where
      some : eqb (suc n) 0 ≡ false
      some = ne_eqb (suc n) 0 (λ z. omega arith)

      less : n ≡ suc n - 1
      less = omega arith

      below_sink : (m lower : ℕ) → struct_sink m t (takes_trailer_lem s) nested lower ≡ sink_for s t m true lower
      below_sink m lower = sym (rw leafy refl)

      go : (c : Option ℕ)
          → on_child t lvl (λ below p h v. array (entered_at p v) ∷ level (struct_sink n t (takes_trailer_lem s) nested below) v p) path handle w c
          ≡ by_kind s t (suc n) i path first handle w (kind_by t (suc n) lvl handle w.size c)
      go None = refl
      go (Some lower) = rw some (go2 (eqb w.size 0))
        where
          go2 : (x : Bool) → (if x then [] else array (entered_at (array_path t lvl path handle) w) ∷ level (struct_sink n t (takes_trailer_lem s) nested lower) w (array_path t lvl path handle))
              ≡ by_kind s t (suc n) i path first handle w (if x then kind.Nothing else kind.Array lower (container_label_lem t lvl handle))
          go2 true = refl
          go2 false =
              ap (λ (k : Sink). array (entered_at (array_path t lvl path handle) w) ∷ level k w (array_path t lvl path handle)) (below_sink n lower)
              ∙ ap (λ (m : ℕ). array (entered_at (array_path t lvl path handle) w) ∷ level (sink_for s t m true lower) w (array_path t lvl path handle)) less

field_kind : (s : Walk) (t : Tables) (below : ℕ) (inside : Bool) (lvl i : ℕ) (path : List ℕ) (first : Bool) (handle : ℕ) (w : Window)
    → (sink_for s t below inside lvl).field i path first handle w ≡ by_kind s t below i path first handle w (kind_of s t below lvl handle w.size)
unfolding sink_for by_kind flat_field kind_of
field_kind s t below inside lvl i path first handle w = go (gives_leaves_lem s) refl
  where
    go : (b : Bool) → gives_leaves_lem s ≡ b
        → (sink_for s t below inside lvl).field i path first handle w ≡ by_kind s t below i path first handle w (kind_of s t below lvl handle w.size)
    go true e = rw e (leafy_kind s e t lvl i path first handle w below inside)
    go false e = rw e refl

flat_kind : (s : Walk) (t : Tables) (below i : ℕ) (path : List ℕ) (first : Bool) (handle : ℕ) (w : Window) (k : Kind) → NotArray k
    → by_kind s t below i path first handle w k ≡ flat_field t i path first handle w k
unfolding by_kind
flat_kind s t below i path first handle w kind.Object n = refl
flat_kind s t below i path first handle w kind.Nothing n = refl
flat_kind s t below i path first handle w (kind.Leaf x) n = refl
flat_kind s t below i path first handle w (kind.Deep x) n = refl
flat_kind s t below i path first handle w (kind.Array lower x) n = absurd n

module _ (s : Walk) (t : Tables) (below : ℕ) (inside : Bool) (lvl i : ℕ) (path : List ℕ) (first : Bool) (handle : ℕ) (w : Window) where
  -- a field that is no array to walk
  pub field_flat : (k : Kind) → k ≡ kind_of s t below lvl handle w.size → NotArray k
      → (sink_for s t below inside lvl).field i path first handle w ≡ flat_field t i path first handle w k
  field_flat k e n =
      field_kind s t below inside lvl i path first handle w
      ∙ ap (by_kind s t below i path first handle w) (sym e)
      ∙ flat_kind s t below i path first handle w k n

  -- one that is
  pub field_array : (lower : ℕ) (x : Label) → kind.Array lower x ≡ kind_of s t below lvl handle w.size
      → (sink_for s t below inside lvl).field i path first handle w ≡ array_field s t below path handle w lower x
  unfolding by_kind
  field_array lower x e = field_kind s t below inside lvl i path first handle w ∙ ap (by_kind s t below i path first handle w) (sym e)

-- an array is walked only where levels are left
pub array_below : (s : Walk) (t : Tables) (below lvl handle width lower : ℕ) (x : Label) → kind.Array lower x ≡ kind_of s t below lvl handle width → 0 < below
unfolding kind_of
array_below s t (suc n) lvl handle width lower x e = omega arith
array_below s t zero lvl handle width lower x e = by_walk (gives_leaves_lem s) e
  where
    go2 : (y : Bool) (z : Label) → kind.Array lower x ≡ (if y then kind.Nothing else kind.Deep z) → 0 < 0
    go2 true z f = never cc
    go2 false z f = never cc

    go : (c : Option ℕ) → kind.Array lower x ≡ kind_by t 0 lvl handle width c → 0 < 0
    go None f = never cc
    go (Some l) f = go2 (eqb width 0) (container_label_lem t lvl handle) f

    by_walk : (b : Bool) → kind.Array lower x ≡ (if b then kind_by t 0 lvl handle width (child t.rows lvl handle) else kind.Object) → 0 < 0
    by_walk true f = go (child t.rows lvl handle) f
    by_walk false f = never cc
