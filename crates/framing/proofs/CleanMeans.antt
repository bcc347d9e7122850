-- What clean means. A window's verdict is clean exactly if it is the bits of an array of the grammar; and then the walk's leaves, pairs and
-- elements are that array's. Of each kind of walk it was shown for a level (GrammarStruct, GrammarObject, GrammarGiven); a window is the bits of
-- an array if they stand in it from its first bit to its last. Its size is not asked for: an array has bits, and the verdict on none isn't clean.
use Prim.Native.Nat.{ℕ, ◌*◌, ◌^◌, ◌≤◌, ◌<◌}
use mathlib.Core.Path.{◌≡◌, refl, sym, ap, ◌∙◌, subst}
use mathlib.Core.Bool.{Bool, true, false}
use mathlib.Core.List.{List, []}
use native.Mathlib.Omega.{arith}
use lib.Dec.{ltb}
use lib.ListN.{length}
use borrow.Author.Tests.{eqb-true, eq-eqb, ltb-false}
use Rattle.bits.specs.Bits.{num}
use Rattle.bits.proofs.FieldLaws.{field_lt}
use Rattle.bits.proofs.ChoiceLaws.{by_cases}
use Rattle.bits.proofs.Never.{never}
use Rattle.bits.specs.Sizes.{levels_below}
use Rattle.schema.specs.Tables.{Tables}
use Rattle.framing.specs.Windows.{Window, window_of}
use Rattle.framing.specs.Events.{root, leaves, pairs, Trace}
use Rattle.framing.specs.Counters.{counters, faults, is_clean}
use Rattle.framing.specs.Walk.{level}
use Rattle.framing.specs.declared.Walk.TheVariants as how
use Rattle.framing.specs.Sinks.{Walker, walker, object, Leafy, sink_of, walk_window, walk}
use Rattle.framing.specs.Verdicts.{Verdict, clean, verdict_of}
use Rattle.framing.specs.Grammar.{Bits, IsNum, Array, array_bits}
use Rattle.framing.specs.GrammarRules.{content_bits, reference_bits}
use Rattle.framing.specs.InGrammar.{StructWindow, InGrammar, tree_leaves, tree_pairs, tree_elements}
use Rattle.framing.proofs.VerdictLaws.{loud, says_clean, some_clean}
use Rattle.framing.proofs.WalkVerdicts.{past_walk}
use Rattle.framing.proofs.Cut.{at_error}
use Rattle.framing.proofs.Demand3.{broken_unclean, walk_inside}
use Rattle.framing.proofs.GrammarBits.{Span}
use Rattle.framing.proofs.GrammarFound.{Fine}
use Rattle.framing.proofs.GrammarStruct.{Tells, InStruct, span_whole, whole_span, found_struct, walked_struct}
use Rattle.framing.proofs.GrammarObject.{found_object, walked_object}
use Rattle.framing.proofs.GrammarGiven.{struct_leaves_lem, struct_elements, object_pairs_lem, object_elements}

-- clean and without fault are the same
fine_clean : (t : Trace) → Fine t → is_clean (counters t) ≡ true
fine_clean t h = eq-eqb (faults (counters t)) 0 h

clean_fine : (t : Trace) → is_clean (counters t) ≡ true → Fine t
clean_fine t h = eqb-true (faults (counters t)) 0 h

root_tells : Tells root
root_tells n h = omega arith

-- an array has bits: those of its count
array_some : {P : Type 0} (bits_of : P → Bits) (a : Array P) → IsNum a.count → 1 ≤ (array_bits bits_of a).size
array_some bits_of a h = let n = h.some in omega arith

-- an array's window has bits
pub grammar_some : (k : Walker) (w : Window) → InGrammar k w → 1 ≤ w.size
grammar_some (walker how.Struct t lvl) w g = subst (λ (b : Bits). 1 ≤ b.size) g.bits (array_some (content_bits levels_below) g.tree g.allowed.count)
grammar_some (walker how.Exact t lvl) w g = subst (λ (b : Bits). 1 ≤ b.size) g.bits (array_some (content_bits levels_below) g.tree g.allowed.count)
grammar_some (walker how.Object t lvl) w g = subst (λ (b : Bits). 1 ≤ b.size) g.bits (array_some reference_bits g.tree g.allowed.count)

-- a window with bits is walked
walked : (k : Walker) (w : Window) → 1 ≤ w.size → walk_window k w ≡ level (sink_of k) w []
unfolding walk_window
walked k w some = rw (loud k w.size some) refl

in_walked : (k : Walker) (w : Window) → InGrammar k w → walk_window k w ≡ level (sink_of k) w []
in_walked k w g = walked k w (grammar_some k w g)

module _ (w : Window) (whole : w.bits < 2 ^ w.size) where
  as_tree : (t : Tables) (takes : Bool) (lvl : ℕ) → InStruct levels_below t.rows takes lvl w → StructWindow t takes lvl w
  as_tree t takes lvl f = record { tree = f.it; allowed = f.ok; bits = span_whole w (array_bits (content_bits levels_below) f.it) whole f.span }

  stands : (t : Tables) (takes : Bool) (lvl : ℕ) (g : StructWindow t takes lvl w) → Span w 0 w.size (array_bits (content_bits levels_below) g.tree)
  stands t takes lvl g = whole_span w (array_bits (content_bits levels_below) g.tree) whole g.bits

  fine_in : (k : Walker) → Fine (level (sink_of k) w []) → InGrammar k w
  unfolding sink_of
  fine_in (walker how.Struct t lvl) h = as_tree t true lvl (found_struct levels_below t true root lvl root_tells w [] h)
  fine_in (walker how.Exact t lvl) h = as_tree t false lvl (found_struct levels_below t false root lvl root_tells w [] h)
  fine_in (walker how.Object t lvl) h =
      let f = found_object w [] h in
      record { tree = f.it; allowed = f.ok; bits = span_whole w (array_bits reference_bits f.it) whole f.span }

  in_fine : (k : Walker) → InGrammar k w → Fine (level (sink_of k) w [])
  unfolding sink_of
  in_fine (walker how.Struct t lvl) g = walked_struct levels_below t true root lvl refl g.tree g.allowed w (stands t true lvl g) []
  in_fine (walker how.Exact t lvl) g = walked_struct levels_below t false root lvl refl g.tree g.allowed w (stands t false lvl g) []
  in_fine (walker how.Object t lvl) g = walked_object g.tree g.allowed w (whole_span w (array_bits reference_bits g.tree) whole g.bits) []

  -- A window whose verdict is clean is the bits of an array of the grammar.
  pub clean_in_grammar : (k : Walker) → verdict_of k w.size (counters (walk_window k w)) ≡ clean → InGrammar k w
  clean_in_grammar k h =
      let s = says_clean k w.size (counters (walk_window k w)) h in
      fine_in k (subst Fine (walked k w s.some) (clean_fine (walk_window k w) s.no_faults))

  -- The verdict on a window that is the bits of an array of the grammar is clean.
  pub grammar_clean : (k : Walker) → InGrammar k w → verdict_of k w.size (counters (walk_window k w)) ≡ clean
  grammar_clean k g =
      some_clean k w.size (counters (walk_window k w))
      (record { some = grammar_some k w g; no_faults = fine_clean (walk_window k w) (subst Fine (sym (in_walked k w g)) (in_fine k g)) })

  -- Then its leaves are the array's.
  tree_leaves_lem : (k : Walker) (g : InGrammar k w) → Leafy k → leaves (level (sink_of k) w []) ≡ tree_leaves k w g
  unfolding sink_of
  tree_leaves_lem (walker how.Struct t lvl) g leafy = struct_leaves_lem levels_below t true root lvl refl g.tree g.allowed w (stands t true lvl g) []
  tree_leaves_lem (walker how.Exact t lvl) g leafy =
      struct_leaves_lem levels_below t false root lvl refl g.tree g.allowed w (stands t false lvl g) []
  tree_leaves_lem (walker how.Object t lvl) g leafy = never cc

  pub grammar_leaves : (k : Walker) (g : InGrammar k w) → Leafy k → leaves (walk_window k w) ≡ tree_leaves k w g
  grammar_leaves k g leafy = ap leaves (in_walked k w g) ∙ tree_leaves_lem k g leafy

  -- Two arrays with the window's bits have the same leaves.
  pub one_meaning : (k : Walker) (g h : InGrammar k w) → Leafy k → tree_leaves k w g ≡ tree_leaves k w h
  one_meaning k g h leafy = sym (grammar_leaves k g leafy) ∙ grammar_leaves k h leafy

  -- An object walk's pairs are the array's.
  pub grammar_pairs : (g : InGrammar object w) → pairs (walk_window object w) ≡ tree_pairs object w g
  unfolding sink_of
  grammar_pairs g = ap pairs (in_walked object w g) ∙ object_pairs_lem g.tree g.allowed w (whole_span w (array_bits reference_bits g.tree) whole g.bits) []

  pub one_list : (g h : InGrammar object w) → tree_pairs object w g ≡ tree_pairs object w h
  one_list g h = sym (grammar_pairs g) ∙ grammar_pairs h

  -- The elements entered are the array's.
  tree_elements_lem : (k : Walker) (g : InGrammar k w) → (counters (level (sink_of k) w [])).elements ≡ tree_elements k w g
  unfolding sink_of
  tree_elements_lem (walker how.Struct t lvl) g = struct_elements levels_below t true root lvl refl g.tree g.allowed w (stands t true lvl g) []
  tree_elements_lem (walker how.Exact t lvl) g =
      struct_elements levels_below t false root lvl refl g.tree g.allowed w (stands t false lvl g) []
  tree_elements_lem (walker how.Object t lvl) g = object_elements g.tree g.allowed w (whole_span w (array_bits reference_bits g.tree) whole g.bits) []

  pub grammar_elements : (k : Walker) (g : InGrammar k w) → (counters (walk_window k w)).elements ≡ tree_elements k w g
  grammar_elements k g = ap (λ (t : Trace). (counters t).elements) (in_walked k w g) ∙ tree_elements_lem k g

-- The same of the first n bits of some bytes, as a call walks them. Where the bytes hold fewer, that is one error, and not clean.
module _ (k : Walker) (bytes : List ℕ) (n : ℕ) where
  abbrev called : Verdict
  called = verdict_of k n (counters (walk k bytes n))

  -- what is walked clean lies in its bytes
  pub clean_inside : called ≡ clean → n ≤ 8 * length bytes
  clean_inside h =
      let s = says_clean k n (counters (walk k bytes n)) h in
      by_cases (ltb (8 * length bytes) n)
      (λ e. absurd (broken_unclean at_error (subst Uncounted (past_walk k bytes n (loud k n s.some) e) s.no_faults)))
      (λ e. ltb-false (8 * length bytes) n e)
    where
      Uncounted : Trace → Type 0
      Uncounted t = is_clean (counters t) ≡ true

  pub clean_call : called ≡ clean → InGrammar k (window_of bytes n)
  clean_call h =
      clean_in_grammar (window_of bytes n) (field_lt (num bytes) 0 n) k
      (subst (λ (t : Trace). verdict_of k n (counters t) ≡ clean) (walk_inside k bytes n (clean_inside h)) h)

  pub grammar_call : n ≤ 8 * length bytes → InGrammar k (window_of bytes n) → called ≡ clean
  grammar_call inside g =
      subst (λ (t : Trace). verdict_of k n (counters t) ≡ clean) (sym (walk_inside k bytes n inside)) (grammar_clean (window_of bytes n) (field_lt (num bytes) 0 n) k g)
