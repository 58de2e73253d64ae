use Rattle.std.proofs.Common.{◌≡◌, ◌∷◌, ◌++◌, ◌∙◌, [], ℕ, List, length, decimal, ap, arith, append_assoc}
use Rattle.trace_text.proofs.Lengths.{board_short}
use Rattle.trace_text.proofs.writing.led_board.Goals as goal

-- The byte before the digits and the digits, appended one after the other, are appended at once.
led : (old one new : List ℕ) (lead n m : ℕ)
    → one ≡ old ++ lead ∷ [] → new ≡ one ++ decimal n → n ≡ m → new ≡ old ++ lead ∷ decimal m
led old one new lead n m first next same =
    next ∙ ap (λ (z : List ℕ). z ++ decimal n) first ∙ append_assoc old (lead ∷ []) (decimal n)
    ∙ ap (λ (k : ℕ). old ++ lead ∷ decimal k) same

pub returns : goal.returns
returns c =
    let same : c.from.result ≡ c.args.board = c.from.ensures ∙ c.board.view_is in
    let short : length (decimal c.from.result) ≡ length (decimal c.args.board) =
    ap (λ (n : ℕ). length (decimal n)) same in
    let two = board_short c.args.board c.requires.board.1 in
    record {
      appends = record {
        bytes =
            led c.args.text.now.bytes c.byte.new.self.bytes c.digits.new.text.bytes c.args.lead c.from.result
            c.args.board c.byte.ensures.bytes c.digits.ensures.appends.bytes same;
        spare = omega (arith, c.byte.ensures.spare, c.digits.ensures.appends.spare, short, two);
        kept = omega (arith, c.byte.ensures.room, c.digits.ensures.appends.kept);
      };
    }
