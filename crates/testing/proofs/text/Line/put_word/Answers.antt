-- `testing::text::Line::put_word` meets its contract, by the digits of its bytes. Assumes nothing.
use Rattle.std.proofs.Common.{rules, ◌≡◌, ◌∙◌, ap, arith, length, List, [], ◌∷◌, ℕ}
use Rattle.std.specs.Int.{to_be_bytes, w32}
use Rattle.hex.specs.Hex.{encode_lower}
use Rattle.testing.specs.Text.{put_of}
use Rattle.testing.proofs.Steps.{put_twice, word_digits}
use Rattle.testing.proofs.text.Line.put_word.Goals as goal

pub returns : goal.returns
returns g c =
    let fits = c.encode_to_slice.ensures.fits.1 (omega (arith, ap length c.to_be_bytes.ensures)) in
    let digits : c.encode_to_slice.new.output ≡ encode_lower c.to_be_bytes.result = search rules in
    rw (c.put_byte.ensures, c.put.ensures, digits, c.to_be_bytes.ensures)
    (put_twice g.row.N c.args.self.now.bytes.items (encode_lower (to_be_bytes w32 c.args.word)) (c.args.after ∷ []) ∙ ap (λ (t : List ℕ). put_of g.row.N t c.args.self.now.bytes.items) (word_digits c.args.word c.args.after))
