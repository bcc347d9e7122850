-- `fastarray::store_record` meets its contract: what the turns write, one number each, is the run.
use Rattle.std.proofs.Common.{◌≡◌, ℕ, ◌+◌, ◌≤◌, ◌<◌, sym, ◌∙◌, ap, arith, length, List, take, set, get_or}
use Rattle.std.proofs.Math.Seq.{paste}
use Rattle.std.proofs.lemmas.List.Edits.{paste_more}
use Rattle.std.proofs.lemmas.List.{take_all}
use Rattle.bits.specs.Runs.{put, store}
use Rattle.bits.proofs.RunLaws.{store_fits, store_out}
use Rattle.fastarray.proofs.store.store_record.Goals as goal

-- one number more of the run s
copied_more : {A : Type 0} (d₀ d s : List A) (i j : ℕ) (z : A) → d ≡ paste d₀ i s j → i + j < length d₀ → j < length s
    → set d (i + j) (get_or s j z) ≡ paste d₀ i s (j + 1)
copied_more {A} d₀ d s i j z e h k = ap (λ (x : List A). set x (i + j) (get_or s j z)) e ∙ paste_more d₀ i s j z h k

-- all of it
copied_all : {A : Type 0} (d₀ d s : List A) (i j : ℕ) → d ≡ paste d₀ i s j → j ≡ length s → i + j ≤ length d₀ → d ≡ store d₀ i s
unfolding put
copied_all d₀ d s i j e f h =
    let t : take j s ≡ s = take_all j s (omega arith) in
    e ∙ rw (t, f) (sym (store_fits d₀ i s (omega arith)))

pub loop-j-preserved : goal.loop-j-preserved
loop-j-preserved g c = copied_more _ _ _ _ _ _ c.loop-j.invariant (omega arith) (omega arith)

pub returns-after-loop-j : goal.returns-after-loop-j
returns-after-loop-j g c = copied_all _ _ _ _ _ c.loop-j.invariant (omega arith) (omega arith)

pub returns-else-start-d : goal.returns-else-start-d
returns-else-start-d g c = sym (store_out _ _ _ (omega arith))
