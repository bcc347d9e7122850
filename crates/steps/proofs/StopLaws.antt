-- What the ways out of an element's fields and of a level give.
use Rattle.std.proofs.Common.{◌≡◌, ℕ, ◌+◌, ◌-◌, ◌≤◌, Bool, true, false, ltb, List, [], ◌∷◌, sym, ap, ◌∙◌, add-zero, arith, le-ltb, lt-ltb}
use types.Run.{OneOf}
use denote.Enum.Declared.{tag_of}
use Rattle.bits.specs.Bits.{num, field}
use Rattle.bits.proofs.FieldLaws.{field_field}
use Rattle.schema.specs.Tables.{Tables}
use Rattle.schema.specs.Labels.{dot, raw_label}
use Rattle.framing.specs.Events.{Leaf, raw_handle, leaf, truncation, Trace}
use Rattle.framing.specs.Walk as W
use Rattle.framing.specs.Walk.{tail, closing, raw_leaf}
use Rattle.framing.specs.Sinks.{leaf_of, gives_leaves_lem}
use Rattle.outputs.specs.World.{World}
use Rattle.steps.specs.Tally.{world_of, played, added}
use Rattle.steps.specs.Views.{inner, exit_sink}
use Rattle.steps.specs.Gives.{tagged_leaf, fields_stop, level_stop}
use Rattle.steps.specs.declared.Tag.TheVariants as tag
use Rattle.framing.specs.declared.Walk.{Walk}
use Rattle.steps.specs.declared.Head.{Head}
use Rattle.steps.specs.declared.tally.Tally.{Tally}
use Rattle.steps.specs.declared.Head.TheVariants as head
use Rattle.steps.specs.contracts.Head.{the_type}
use Rattle.steps.proofs.CaseLaws.{not_closed, fields_stop_lem}
use Rattle.steps.proofs.TallyLaws.{count_truncation, count_error, count_implicit, played_none, played_then}

-- ---- a tail

module _ (s : Walk) (inside : Bool) (bytes : List ℕ) (base at end : ℕ) (path : List ℕ) (w : World) where
  -- the object walk keeps none
  pub tail_object : gives_leaves_lem s ≡ false → w ≡ played (tail (exit_sink s inside) (inner bytes base at end) path 0) w
  unfolding tail
  tail_object e = rw e (played_none w)

  module _ (e : gives_leaves_lem s ≡ true) where
    -- nor does a walk at the window's end
    pub tail_end : at ≡ end → w ≡ played (tail (exit_sink s inside) (inner bytes base at end) path 0) w
    unfolding tail inner
    tail_end h = let none : ltb 0 (end - at) ≡ false = le-ltb 0 (end - at) (omega arith) in rw (e, none) (played_none w)

    -- else it is a leaf `_raw` of all bits that are left
    raw_leaf_lem : raw_leaf (inner bytes base at end) path 0 ≡ leaf_of (dot path raw_label) raw_handle (inner bytes base at end)
    unfolding inner
    raw_leaf_lem =
        let o : base + at + 0 ≡ base + at = omega arith in
        let n : end - at - 0 ≡ end - at = omega arith in
        let p : field (field (num bytes) at (end - at)) 0 (end - at - 0) ≡ field (num bytes) at (end - at) =
        ap (field (field (num bytes) at (end - at)) 0) n
        ∙ field_field (num bytes) at (end - at) 0 (end - at) (omega arith)
        ∙ ap (λ (k : ℕ). field (num bytes) k (end - at)) (add-zero at) in
        λ i. record { path = dot path raw_label; handle = raw_handle; start = o i; width = n i; payload = p i }

    pub tail_kept : (w' : World) (t : Tables) → at ≤ end → (at ≡ end → ⊥) → w' ≡ played (tagged_leaf t path raw_handle tag.Raw (inner bytes base at end)) w
        → w' ≡ played (tail (exit_sink s inside) (inner bytes base at end) path 0) w
    unfolding tail tagged_leaf inner
    tail_kept w' t l h q =
        let more : ltb 0 (end - at) ≡ true = lt-ltb 0 (end - at) (omega arith) in
        q ∙ ap (λ (u : Trace). played u w) (sym (rw (e, more) (ap (λ (x : Leaf). leaf x ∷ []) raw_leaf_lem)))

-- ---- an element's fields that don't close

module _ (s : W.Sink) (bytes : List ℕ) (base end : ℕ) (path : List ℕ) (h : Head) (t : Tally) (records paths payloads : List ℕ) where
  fields_by : (h' : Head) (w w' : World) → h ≡ h' → w' ≡ played (fields_stop s bytes base end path h') w → w' ≡ played (fields_stop s bytes base end path h) w
  fields_by h' w w' e q = q ∙ ap (λ (x : Head). played (fields_stop s bytes base end path x) w) (sym e)

  pub fields_ended : (k : ℕ) → h ≡ head.Ended → k ≡ added t.implicit 1
      → world_of (record t { implicit = k }) records paths payloads ≡ played (fields_stop s bytes base end path h) (world_of t records paths payloads)
  unfolding fields_stop
  fields_ended k e q = fields_by head.Ended (world_of t records paths payloads) _ e (count_implicit t records paths payloads k q)

  pub fields_failed : (k : ℕ) → h ≡ head.Failed → k ≡ added t.errors 1
      → world_of (record t { errors = k }) records paths payloads ≡ played (fields_stop s bytes base end path h) (world_of t records paths payloads)
  unfolding fields_stop
  fields_failed k e q = fields_by head.Failed (world_of t records paths payloads) _ e (count_error t records paths payloads k q)

  pub fields_limit : (n k : ℕ) (w' : World) → h ≡ head.Limit n → k ≡ added t.truncations 1
      → w' ≡ played (tail s (inner bytes base n end) path 0) (world_of (record t { truncations = k }) records paths payloads)
      → w' ≡ played (fields_stop s bytes base end path h) (world_of t records paths payloads)
  unfolding fields_stop
  fields_limit n k w' e q r =
      fields_by (head.Limit n) (world_of t records paths payloads) w' e
      (r
      ∙ ap (played (tail s (inner bytes base n end) path 0)) (count_truncation t records paths payloads k q)
      ∙ played_then truncation (tail s (inner bytes base n end) path 0) (world_of t records paths payloads))

module _ (s : W.Sink) (bytes : List ℕ) (base end : ℕ) (path : List ℕ) (h : Head) (w : World) where
  -- the heads that give nothing here
  pub fields_closed : (n : ℕ) → h ≡ head.Closed n → w ≡ played (fields_stop s bytes base end path h) w
  unfolding fields_stop
  fields_closed n e = played_none w ∙ ap (λ (x : Head). played (fields_stop s bytes base end path x) w) (sym e)

  pub fields_go : (v a b : ℕ) → h ≡ head.Go v a b → w ≡ played (fields_stop s bytes base end path h) w
  unfolding fields_stop
  fields_go v a b e = played_none w ∙ ap (λ (x : Head). played (fields_stop s bytes base end path x) w) (sym e)

  -- ---- a level that ends

  pub level_closed : (n : ℕ) (w' : World) → h ≡ head.Closed n → w' ≡ played (closing s (inner bytes base n end) 0) w → w' ≡ played (level_stop s bytes base end path h) w
  unfolding level_stop
  level_closed n w' e q = q ∙ ap (λ (x : Head). played (level_stop s bytes base end path x) w) (sym e)

-- every other head ends a level as it ends an element's fields
pub level_other : (s : W.Sink) (bytes : List ℕ) (base end : ℕ) (path : List ℕ) (h : Head) (w w' : World)
    → OneOf (0 ∷ 1 ∷ 3 ∷ 4 ∷ []) (tag_of the_type h) → w' ≡ played (fields_stop s bytes base end path h) w → w' ≡ played (level_stop s bytes base end path h) w
level_other s bytes base end path h w w' k q = q ∙ ap (λ (t : Trace). played t w) (sym (fields_stop_lem s bytes base end path h (not_closed h k)))
