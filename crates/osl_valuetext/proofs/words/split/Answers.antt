use Rattle.std.proofs.Common.{◌-◌, ◌+◌, length, take, drop, refl, length-take, length-drop, arith}
use Rattle.std.proofs.lemmas.List.{take_rest}
use Rattle.osl_valuetext.specs.Scan.{parts, keeps}
use Rattle.osl_valuetext.proofs.Pieces.{split_ends, split_goes_on}
use Rattle.osl_valuetext.proofs.words.split.Goals as goal

pub returns-then-len-rest : goal.returns-then-len-rest
returns-then-len-rest c =
    let n = c.piece_len-len.result in
    let rest = c.loop-rest.rest.now in
    split_ends (keeps c.args.parting) (parts c.args.parting) n rest (take n rest) _ _ _ c.piece_len-len.ensures.value (omega arith) refl c.in_ok-push_piece.ensures c.loop-rest.invariant.so_far

pub loop-rest-preserved : goal.loop-rest-preserved
loop-rest-preserved c =
    let n = c.piece_len-len.result in
    let rest = c.loop-rest.rest.now in
    record {
      so_far = split_goes_on (keeps c.args.parting) (parts c.args.parting) n rest (take n rest) (take (length rest - (n + 1)) (drop (n + 1) rest)) _ _ _ c.piece_len-len.ensures.value (omega arith) refl (take_rest rest (n + 1)) c.in_ok-push_piece.ensures c.loop-rest.invariant.so_far;
      within = omega (arith, length-take (length rest - (n + 1)) (drop (n + 1) rest), length-drop (n + 1) rest);
    }
