-- `fastarray::measure` meets its contract: what the items say, and where they end, is the body's measure.
use Rattle.std.proofs.Common.{◌≡◌, ℕ, ◌+◌, ◌*◌, Option, sym, ◌∙◌, ap₂, arith}
use Rattle.fastarray.specs.Body.{header_bits, deletes, changes, items_from}
use Rattle.fastarray.specs.Parts.{items_read_of}
use Rattle.fastarray.specs.declared.Reached.{Reached}
use Rattle.fastarray.proofs.ReadLaws.{read_back}
use Rattle.fastarray.proofs.HeaderLaws.{headed_fits, not_headed, no_items, counted_within, not_ended, body_measured}
use Rattle.fastarray.proofs.header.measure.Goals as goal

-- what was read, of the header's own counts
said : (flag W end n d : ℕ) (q r : Option Reached) → n ≡ changes W → d ≡ deletes W → q ≡ items_read_of 0 0 (items_from n flag W end (header_bits + 32 * d)) → q ≡ r
    → items_read_of 0 0 (items_from (changes W) flag W end (header_bits + 32 * deletes W)) ≡ r
said flag W end n d q r a b s e = sym (ap₂ (λ (n d : ℕ). items_read_of 0 0 (items_from n flag W end (header_bits + 32 * d))) a b) ∙ sym s ∙ e

pub returns-then-not-is_headed : goal.returns-then-not-is_headed
returns-then-not-is_headed c = not_headed _ _ _ (sym c.is_headed.ensures ∙ c.if-not-is_headed.true)

pub signed_of-key-requires : goal.signed_of-key-requires
signed_of-key-requires c = let f = headed_fits _ _ _ (sym c.is_headed.ensures ∙ c.if-not-is_headed.false) in omega (arith, f.header, f.lists)

pub signed_of-base-requires : goal.signed_of-base-requires
signed_of-base-requires c = let f = headed_fits _ _ _ (sym c.is_headed.ensures ∙ c.if-not-is_headed.false) in omega (arith, f.header, f.lists)

pub word_of-deletes-requires : goal.word_of-deletes-requires
word_of-deletes-requires c = let f = headed_fits _ _ _ (sym c.is_headed.ensures ∙ c.if-not-is_headed.false) in omega (arith, f.header, f.lists)

pub word_of-changes-requires : goal.word_of-changes-requires
word_of-changes-requires c = let f = headed_fits _ _ _ (sym c.is_headed.ensures ∙ c.if-not-is_headed.false) in omega (arith, f.header, f.lists)

pub read_items-requires : goal.read_items-requires
read_items-requires c =
    let f = headed_fits _ _ _ (sym c.is_headed.ensures ∙ c.if-not-is_headed.false) in
    omega (arith, f.header, f.lists, c.word_of-deletes.ensures, c.word_of-changes.ensures)

pub returns-in_err-read : goal.returns-in_err-read
returns-in_err-read c =
    c.from_residual.ensures
    ∙ no_items _ _ _ (sym c.is_headed.ensures ∙ c.if-not-is_headed.false) (said _ _ _ _ _ _ _ c.word_of-changes.ensures c.word_of-deletes.ensures c.read_items.ensures.says c.in_err-read.was)

pub returns-then-read-w : goal.returns-then-read-w
returns-then-read-w c =
    not_ended _ _ _ (sym c.is_headed.ensures ∙ c.if-not-is_headed.false) _ (said _ _ _ _ _ _ _ c.word_of-changes.ensures c.word_of-deletes.ensures c.read_items.ensures.says c.in_ok-read.was) c.if-read-w.true

pub overflow_cast-fields : goal.overflow_cast-fields
overflow_cast-fields c =
    let k = counted_within _ _ _ (sym c.is_headed.ensures ∙ c.if-not-is_headed.false) _ (said _ _ _ _ _ _ _ c.word_of-changes.ensures c.word_of-deletes.ensures c.read_items.ensures.says c.in_ok-read.was) in
    omega (arith, k)

pub overflow_cast-padded : goal.overflow_cast-padded
overflow_cast-padded c =
    let k = counted_within _ _ _ (sym c.is_headed.ensures ∙ c.if-not-is_headed.false) _ (said _ _ _ _ _ _ _ c.word_of-changes.ensures c.word_of-deletes.ensures c.read_items.ensures.says c.in_ok-read.was) in
    omega (arith, k)

pub returns : goal.returns
returns c =
    body_measured _ _ _ (sym c.is_headed.ensures ∙ c.if-not-is_headed.false) _ (said _ _ _ _ _ _ _ c.word_of-changes.ensures c.word_of-deletes.ensures c.read_items.ensures.says c.in_ok-read.was) c.if-read-w.false _ _ _ _
    (read_back _ _ _ c.signed_of-key.ensures) (read_back _ _ _ c.signed_of-base.ensures)
    c.word_of-deletes.ensures c.word_of-changes.ensures
