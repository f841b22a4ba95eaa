use Rattle.std.proofs.Common.{◌≡◌, ◌+◌, ◌*◌, ◌≤◌, length, sym, refl, ap, ◌∙◌, inl, inr, mul_comm, arith}
use Rattle.std.proofs.lemmas.Nat.{mul-le}
use Rattle.std.proofs.lemmas.List.Edits.{length-between}
use Rattle.std.proofs.lemmas.Bool.{cases_lt}
use Rattle.std.proofs.lemmas.Result.{err_from_is_err_and}
use Rattle.bits.specs.Bits.{bits_of}
use Rattle.range_coder.specs.Decisions.{start_reader}
use Rattle.frame.specs.Frame.{block_count, past, shows, valid}
use Rattle.frame.specs.Show.{format_of}
use Rattle.frame.proofs.Bands.{drawn_more}
use Rattle.frame.proofs.Blocks.{every_from, every_fails}
use Rattle.frame.proofs.decoding.decode.Goals as goal

pub loop-row-init : goal.loop-row-init
unfolding past
loop-row-init c =
    let z : 0 * c.args.format.across ≡ 0 = omega arith in (
      c.new-reader.ensures.start ∙ ap (past c.args.frame.header.key (start_reader (bits_of c.args.frame.bytes.now))) (sym z),
      (λ i _ il. absurd (let f : ⊥ = omega arith in f)),
      (λ x y _ yl. absurd (let f : ⊥ = omega arith in f)),
    )

pub slice_bounds-decode_row-end : goal.slice_bounds-decode_row-end
slice_bounds-decode_row-end c =
    omega (arith, mul-le (c.loop-row.row + 1) (16 * c.args.format.across) c.args.format.down (16 * c.args.format.across) (omega arith) (omega arith))

pub returns-in_err-decode_row : goal.returns-in_err-decode_row
unfolding valid
returns-in_err-decode_row c =
    let p = err_from_is_err_and c.from_residual.result c.from_residual.ensures.1 in
    let u = c.in_err-decode_row.ensures (start_reader (bits_of c.args.frame.bytes.now)) c.loop-row.invariant.0 in
    rw (p.1, p.2) (u.0, every_fails (block_count (format_of c.args.format)) _ u.1.0 u.1.1 u.1.2)

-- the row that was lent on is as long as a row of blocks, and starts within the picture
band_length : (c : goal.In_ok-decode_row) → length c.decode_row.new.band ≡ 16 * c.args.format.across
band_length c =
    let m = mul-le (c.loop-row.row + 1) (16 * c.args.format.across) c.args.format.down (16 * c.args.format.across) (omega arith) (omega arith) in
    let h = c.decode_row.auto.band in
    let g = length-between c.loop-row.output (c.loop-row.row * (16 * c.args.format.across)) ((c.loop-row.row + 1) * (16 * c.args.format.across)) (omega arith) in
    omega arith

band_start : (c : goal.In_ok-decode_row) → c.loop-row.row * (16 * c.args.format.across) ≤ length c.loop-row.output
band_start c =
    omega (arith, mul-le c.loop-row.row (16 * c.args.format.across) c.args.format.down (16 * c.args.format.across) (omega arith) (omega arith))

pub loop-row-preserved : goal.loop-row-preserved
loop-row-preserved c =
    let u = c.in_ok-decode_row.ensures (start_reader (bits_of c.args.frame.bytes.now)) c.loop-row.invariant.0 in (
      u.0,
      (λ i z il. elim (cases_lt i (c.loop-row.row * c.args.format.across)) [ inl h ↦ c.loop-row.invariant.1 i z h | inr h ↦ u.1 i h il ]),
      drawn_more (format_of c.args.format) _ c.loop-row.row _ _ c.loop-row.output c.decode_row.new.band c.loop-row.invariant.2 u.2 refl (band_length c) (band_start c),
    )

pub returns : goal.returns
unfolding valid shows
returns c =
    let n : c.loop-row.row ≡ c.args.format.down = omega arith in
    let m : c.loop-row.row * c.args.format.across ≡ c.args.format.across * c.args.format.down
    = ap (λ k. k * c.args.format.across) n ∙ mul_comm c.args.format.down c.args.format.across in (
      every_from (block_count (format_of c.args.format)) _ (λ i l. c.loop-row.invariant.1 i (omega arith) (omega arith)),
      record { long = omega arith; at = λ x y xl yl. c.loop-row.invariant.2 x y xl (omega arith) },
    )
