-- Word by word. Assumes nothing.
use Rattle.std.proofs.Common.{◌≡◌, ◌+◌, ◌*◌, ◌++◌, ◌∷◌, [], List, ℕ, take, get_or, sym, ap, ◌∙◌, arith, take_all}
use Rattle.std.specs.List.{flat_map}
use Rattle.std.proofs.lemmas.List.{flat_map_more, take_more}
use Rattle.capture_lines.specs.Line.{word_of, text_of, line_with}
use Rattle.capture_lines.proofs.LineLaws.{text_counts, carries_letter, carries_word, carries_newline}
use Rattle.capture_lines.proofs.line_with.Goals as goal

pub loop-n-init : goal.loop-n-init
loop-n-init c = carries_letter c.args.l c.letter-t.result c.letter-t.ensures

pub loop-n-preserved : goal.loop-n-preserved
loop-n-preserved c =
    let i = c.loop-n.n-index in
    let numbers = c.args.numbers.now in
    let letter = c.args.l ∷ [] in
    let n = get_or numbers i 0 in
    let more = carries_word (letter ++ flat_map word_of (take i numbers)) (1 + 21 * i) n _ _ c.loop-n.invariant (omega arith) c.word-t.ensures in
    let is : (letter ++ flat_map word_of (take i numbers)) ++ word_of n ≡ letter ++ flat_map word_of (take (i + 1) numbers)
    = flat_map_more word_of letter (take i numbers) n ∙ ap (λ (x : List ℕ). letter ++ flat_map word_of x) (sym (take_more numbers i 0 c.loop-n-test.true)) in
    record { text = more.text ∙ ap text_of is; most = omega (arith, more.most) }

pub returns : goal.returns
returns c =
    let i = c.loop-n.n-index in
    let numbers = c.args.numbers.now in
    let end = carries_newline _ (1 + 21 * i) _ _ c.loop-n.invariant (omega arith) c.newline.ensures in
    let value : c.newline.result ≡ text_of (line_with c.args.l numbers)
    = end.text ∙ ap (λ (x : List ℕ). text_of (line_with c.args.l x)) (take_all i numbers (omega arith)) in
    record { value = value; prefix_len = text_counts _ _ value }
