-- `fastarray::is_headed` meets its contract: each test in turn decides, or leaves it to the next.
use Rattle.std.proofs.Common.{◌+◌, ◌*◌, ap, ◌∙◌, ℕ}
use Rattle.std.specs.Prelude.{leb}
use Rattle.fastarray.proofs.HeaderLaws.{headed_short, headed_unsupported, headed_deletes, headed_changes, headed_last}
use Rattle.fastarray.proofs.header.is_headed.Goals as goal

pub returns-then-w-lt-HEADER_BITS : goal.returns-then-w-lt-HEADER_BITS
returns-then-w-lt-HEADER_BITS c = headed_short _ _ _ c.if-w-lt-HEADER_BITS.true

pub returns-then-support-ne1 : goal.returns-then-support-ne1
returns-then-support-ne1 c = headed_unsupported _ _ _ c.if-w-lt-HEADER_BITS.false _ c.first_bit-support.ensures c.if-support-ne1.true

pub returns-then-deletes-ge2147483648 : goal.returns-then-deletes-ge2147483648
returns-then-deletes-ge2147483648 c = headed_deletes _ _ _ c.if-w-lt-HEADER_BITS.false _ c.first_bit-support.ensures _ c.word_of-deletes.ensures c.if-support-ne1.false c.if-deletes-ge2147483648.true

pub returns-then-changes-ge2147483648 : goal.returns-then-changes-ge2147483648
returns-then-changes-ge2147483648 c =
    headed_changes _ _ _ c.if-w-lt-HEADER_BITS.false _ c.first_bit-support.ensures _ c.word_of-deletes.ensures c.if-support-ne1.false _ c.word_of-changes.ensures c.if-deletes-ge2147483648.false c.if-changes-ge2147483648.true

pub returns : goal.returns
returns c =
    ap (λ (f : ℕ). leb (129 + (32 * c.word_of-deletes.result + (40 + f) * c.word_of-changes.result)) c.args.w.now.end) c.flag_bits.ensures
    ∙ headed_last _ _ _ c.if-w-lt-HEADER_BITS.false _ c.first_bit-support.ensures _ c.word_of-deletes.ensures c.if-support-ne1.false _ c.word_of-changes.ensures c.if-deletes-ge2147483648.false c.if-changes-ge2147483648.false
