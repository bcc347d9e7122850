-- What a field is, from the entry that was found, and what one gives that is no array to walk.
use Rattle.std.proofs.Common.{◌≡◌, ℕ, Option, Some, None, Bool, true, false, ◌⊎◌, List, take, sym, refl, ap, ◌∙◌, subst, inl, inr, eq-eqb, ne_eqb}
use Rattle.schema.specs.Tables.{Tables, child, declared_name_lem}
use Rattle.schema.specs.Labels.{by_schema_lem, by_declaration_lem, LabelLies}
use Rattle.schema.specs.Spans.{entry}
use Rattle.schema.specs.declared.Entry.{Entry}
use Rattle.schema.specs.declared.Label.{Label}
use Rattle.schema.proofs.LabelLaws.{container_from, leaf_from}
use Rattle.framing.specs.Windows.{Window}
use Rattle.framing.specs.Events.{truncation}
use Rattle.framing.specs.Sinks.{object_field_lem, gives_leaves_lem}
use Rattle.outputs.specs.World.{World}
use Rattle.steps.specs.Tally.{played, added}
use Rattle.steps.specs.Steps.{world_in, Plays}
use Rattle.steps.specs.Kinds.{kind_by, kind_of, KindLies}
use Rattle.steps.specs.Gives.{tagged_leaf, flat_field}
use Rattle.steps.specs.declared.Tag.TheVariants as tag
use Rattle.framing.specs.declared.Walk.{Walk}
use Rattle.steps.specs.declared.Kind.{Kind}
use Rattle.steps.specs.declared.Kind.TheVariants as kind
use Rattle.steps.specs.declared.writes.Outputs.{Outputs}
use Rattle.steps.proofs.LentLaws.{lent_counted, lent_then}
use Rattle.steps.proofs.TallyLaws.{count_truncation, played_none, played_then}

-- ---- what a field is

module _ (s : Walk) (t : Tables) (below level handle width : ℕ) where
  pub kind_object : gives_leaves_lem s ≡ false → kind.Object ≡ kind_of s t below level handle width
  unfolding kind_of
  kind_object e = rw e refl

  module _ (e : gives_leaves_lem s ≡ true) (x : Entry) (found : x ≡ entry t.rows level handle) where
    by_child : (y : Option ℕ) → x.elements ≡ y → kind_by t below level handle width y ≡ kind_of s t below level handle width
    unfolding kind_of
    by_child y q =
        let z : child t.rows level handle ≡ y = sym (ap (λ (n : Entry). n.elements) found) ∙ q in
        rw e (ap (kind_by t below level handle width) (sym z))

    pub kind_leaf : (l : Label) → x.elements ≡ None → l ≡ by_declaration_lem (declared_name_lem t.declared handle) (by_schema_lem x.name)
        → kind.Leaf l ≡ kind_of s t below level handle width
    kind_leaf l q el = ap (λ (n : Label). kind.Leaf n) (el ∙ leaf_from t level handle x found) ∙ by_child None q

    module _ (lower : ℕ) (q : x.elements ≡ Some lower) where
      pub kind_nothing : width ≡ 0 → kind.Nothing ≡ kind_of s t below level handle width
      kind_nothing z = sym (rw (eq-eqb width 0 z) refl) ∙ by_child (Some lower) q

      module _ (l : Label) (el : l ≡ by_schema_lem x.name) (some : width ≡ 0 → ⊥) where
        pub kind_deep : below ≡ 0 → kind.Deep l ≡ kind_of s t below level handle width
        kind_deep z =
            ap (λ (n : Label). kind.Deep n) (el ∙ container_from t level handle x found)
            ∙ sym (rw (ne_eqb width 0 some, eq-eqb below 0 z) refl)
            ∙ by_child (Some lower) q

        pub kind_array : (below ≡ 0 → ⊥) → kind.Array lower l ≡ kind_of s t below level handle width
        kind_array n =
            ap (λ (m : Label). kind.Array lower m) (el ∙ container_from t level handle x found)
            ∙ sym (rw (ne_eqb width 0 some, ne_eqb below 0 n) refl)
            ∙ by_child (Some lower) q

-- ---- what a field gives

module _ (t : Tables) (index : ℕ) (path : List ℕ) (first : Bool) (handle : ℕ) (w : Window) (k : Kind) where
  flat_by : (k' : Kind) (v v' : World) → k ≡ k' → v' ≡ played (flat_field t index path first handle w k') v → v' ≡ played (flat_field t index path first handle w k) v
  flat_by k' v v' e q = q ∙ ap (λ (x : Kind). played (flat_field t index path first handle w x) v) (sym e)

  pub flat_object : (v v' : World) → k ≡ kind.Object → v' ≡ played (object_field_lem index first w) v → v' ≡ played (flat_field t index path first handle w k) v
  unfolding flat_field
  flat_object v v' e q = flat_by kind.Object v v' e q

  pub flat_nothing : (v : World) → k ≡ kind.Nothing → v ≡ played (flat_field t index path first handle w k) v
  unfolding flat_field
  flat_nothing v e = flat_by kind.Nothing v v e (played_none v)

  pub flat_array : (v : World) (lower : ℕ) (x : Label) → k ≡ kind.Array lower x → v ≡ played (flat_field t index path first handle w k) v
  unfolding flat_field
  flat_array v lower x e = flat_by (kind.Array lower x) v v e (played_none v)

-- ---- what one gives that holds the label of a leaf

-- the tally has so many truncations
abbrev truncated : Outputs → (n : ℕ) → Outputs
truncated o n = record o { tally = record o.tally { truncations = n } }

-- The kind k holds the label l, and what it counts before its leaf makes o₁ of what is lent: nothing, or the truncation of an array
-- below the last level.
abbrev pub Labelled : Kind → (o o₁ : Outputs) → Label → Type 0
Labelled k o o₁ l = ((k ≡ kind.Leaf l) × (o₁ ≡ o)) ⊎ ((k ≡ kind.Deep l) × (o₁ ≡ truncated o (added o.tally.truncations 1)))

module _ (k : Kind) (o o₁ : Outputs) (l : Label) where
  pub labelled_leaf : (x : Label) → k ≡ kind.Leaf x → l ≡ x → o₁ ≡ o → Labelled k o o₁ l
  labelled_leaf x e q ec = inl (e ∙ ap (λ (n : Label). kind.Leaf n) (sym q), ec)

  pub labelled_deep : (x : Label) (n : ℕ) → k ≡ kind.Deep x → l ≡ x → n ≡ added o.tally.truncations 1 → o₁ ≡ truncated o n → Labelled k o o₁ l
  labelled_deep x n e q ec e₁ = inr (e ∙ ap (λ (y : Label). kind.Deep y) (sym q), e₁ ∙ ap (truncated o) ec)

  pub labelled_lies : (t : Tables) → Labelled k o o₁ l → KindLies t k → LabelLies t l
  labelled_lies t (inl w) h = subst (KindLies t) w.0 h
  labelled_lies t (inr w) h = subst (KindLies t) w.0 h

  module _ (t : Tables) (index : ℕ) (first : Bool) (handle : ℕ) (w : Window) (plen : ℕ) (o₂ : Outputs) where
    abbrev leaf_from_lem : Outputs → Type 0
    leaf_from_lem n = Plays (tagged_leaf t (take plen n.path.now) handle (tag.Label l) w) plen n o₂

    pub flat_labelled : Labelled k o o₁ l → leaf_from_lem o₁ → Plays (flat_field t index (take plen o.path.now) first handle w k) plen o o₂
    unfolding flat_field
    flat_labelled (inl (e, ec)) p =
        let r = subst leaf_from_lem ec p in
        record { out = flat_by t index (take plen o.path.now) first handle w k (kind.Leaf l) (world_in o) (world_in o₂) e r.out; kept = r.kept; lent = r.lent }
    flat_labelled (inr (e, ec)) p =
        let r = subst leaf_from_lem ec p in
        let given = tagged_leaf t (take plen o.path.now) handle (tag.Label l) w in
        record {
          out =
              flat_by t index (take plen o.path.now) first handle w k (kind.Deep l) (world_in o) (world_in o₂) e
              (r.out ∙ ap (played given) (count_truncation o.tally o.records.now o.paths.now o.payloads.now (added o.tally.truncations 1) refl) ∙ played_then truncation given (world_in o));
          kept = r.kept;
          lent = lent_then o (truncated o (added o.tally.truncations 1)) o₂ (lent_counted o _) r.lent;
        }
