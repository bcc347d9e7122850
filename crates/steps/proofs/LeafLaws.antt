-- One leaf: how long its path is, and its three runs, written and counted.
use Rattle.std.proofs.Common.{◌≡◌, ℕ, ◌+◌, ◌-◌, ◌≤◌, List, ◌∷◌, ◌++◌, length, take, sym, refl, ap, ◌∙◌, arith}
use Rattle.bits.specs.Bits.{num, field}
use Rattle.bits.specs.Runs.{bytes_of, bytes_for, put, store}
use Rattle.bits.proofs.RunLaws.{store_fits, length_bytes_of}
use Rattle.bits.specs.Sizes.{max_name, longest_path}
use Rattle.schema.specs.Tables.{Tables}
use Rattle.schema.specs.Labels.{dot}
use Rattle.schema.proofs.LaidLaws.{label_length, label_short}
use Rattle.framing.specs.Sinks.{leaf_of}
use Rattle.framing.specs.Records.{leaf_words, leaf_numbers}
use Rattle.steps.specs.Tally.{world_of, played, reserved}
use Rattle.steps.specs.Views.{inner}
use Rattle.steps.specs.Paths.{tag_bytes, tag_length_lem, TagLies}
use Rattle.steps.specs.Gives.{tagged_leaf}
use Rattle.steps.specs.declared.Tag.{Tag}
use Rattle.steps.specs.declared.tally.Tally.{Tally}
use Rattle.steps.specs.declared.Tag.TheVariants as tag
use Rattle.steps.proofs.TallyLaws.{leaf_counted}
use Rattle.steps.proofs.PathLaws.{length_longer, take_put}

-- a tag has as many bytes as it says, and no more than a name may have
pub tag_length : (t : Tables) (handle : ℕ) (x : Tag) → TagLies t x → length (tag_bytes t handle x) ≡ tag_length_lem handle x
tag_length t handle (tag.Label l) h = label_length t handle l h
tag_length t handle tag.Raw h = refl

pub tag_short : (t : Tables) (handle : ℕ) (x : Tag) → TagLies t x → tag_length_lem handle x ≤ max_name
tag_short t handle (tag.Label l) h = label_short t handle l h
tag_short t handle tag.Raw h = omega arith

-- the leaf with this tag behind the first `plen` bytes of the working path
module _ (t : Tables) (handle : ℕ) (x : Tag) (path : List ℕ) (plen n : ℕ)
    (lies : TagLies t x) (sized : length path ≡ longest_path) (front : plen ≤ longest_path) (n-is : n ≡ plen + 1 + tag_length_lem handle x) where
  pub path_length_lem : length (dot (take plen path) (tag_bytes t handle x)) ≡ n
  unfolding dot
  path_length_lem =
      let a = length_longer path (46 ∷ tag_bytes t handle x) plen (omega arith) in
      let b = tag_length t handle x lies in
      omega arith

  -- its path, written to the working path and copied from there
  pub path_copied : (d d' path' : List ℕ) (at k : ℕ) → k ≡ n → at + n ≤ length d → path' ≡ put path plen (46 ∷ tag_bytes t handle x)
      → d' ≡ put d at (take k path') → d' ≡ store d at (dot (take plen path) (tag_bytes t handle x))
  unfolding dot
  path_copied d d' path' at k ek fits ep ed =
      let b = tag_length t handle x lies in
      let m : take k path' ≡ take plen path ++ (46 ∷ tag_bytes t handle x) =
      ap (take k) ep ∙ take_put path (46 ∷ tag_bytes t handle x) plen k (omega arith) (omega arith) in
      let l = path_length_lem in
      ed ∙ ap (put d at) m ∙ sym (store_fits d at (take plen path ++ (46 ∷ tag_bytes t handle x)) (omega arith))

  module _ (bytes : List ℕ) (base «from» end : ℕ) (tally tally' : Tally) (records paths payloads : List ℕ) where
    pub leaf_put : (records' paths' payloads' : List ℕ) → tally' ≡ reserved tally leaf_words n (bytes_for (end - «from»))
        → records' ≡ store records tally.records (leaf_numbers tally.paths n handle (end - «from») tally.payloads (base + «from»))
        → paths' ≡ store paths tally.paths (dot (take plen path) (tag_bytes t handle x))
        → payloads' ≡ store payloads tally.payloads (bytes_of (bytes_for (end - «from»)) (field (num bytes) «from» (end - «from»)))
        → world_of tally' records' paths' payloads' ≡ played (tagged_leaf t (take plen path) handle x (inner bytes base «from» end)) (world_of tally records paths payloads)
    unfolding tagged_leaf inner
    leaf_put records' paths' payloads' ec ew et el =
        let l = path_length_lem in
        let y = leaf_of (dot (take plen path) (tag_bytes t handle x)) handle (inner bytes base «from» end) in
        let s : bytes_for (end - «from») ≡ length (bytes_of (bytes_for (end - «from»)) (field (num bytes) «from» (end - «from»))) =
        sym (length_bytes_of (bytes_for (end - «from»)) (field (num bytes) «from» (end - «from»))) in
        ap (λ (k : Tally). world_of k records' paths' payloads') ec
        ∙ leaf_counted tally records paths payloads y n (bytes_for (end - «from»)) records' paths' payloads' (sym l) s
        (ew ∙ ap (λ (k : ℕ). store records tally.records (leaf_numbers tally.paths k handle (end - «from») tally.payloads (base + «from»))) (sym l)) et el
