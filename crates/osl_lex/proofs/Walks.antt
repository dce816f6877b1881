-- One piece more behind the pieces of a walk.
use Rattle.std.proofs.Common.{ℕ, List, [], ◌∷◌, ◌++◌}
use Rattle.osl_tree.specs.declared.token.Token.{Token}
use Rattle.osl_tree.specs.Lexical.{IsGap, IsTokenAt, Runs, here, gap, token}

pub and_gap : {bytes : List ℕ} {from at : ℕ} {ts : List Token} (on : ℕ) → Runs bytes from ts at → IsGap bytes at on → Runs bytes from ts on
and_gap on (here at) is = gap at on on [] is (here on)
and_gap on (gap at next to ts first rest) is = gap at next on ts first (and_gap on rest is)
and_gap on (token at to t ts first rest) is = token at on t ts first (and_gap on rest is)

pub and_token : {bytes : List ℕ} {from at : ℕ} {ts : List Token} (t : Token) → Runs bytes from ts at → IsTokenAt bytes at t → Runs bytes from (ts ++ t ∷ []) t.end
and_token t (here at) is = token at t.end t [] is (here t.end)
and_token t (gap at next to ts first rest) is = gap at next t.end (ts ++ t ∷ []) first (and_token t rest is)
and_token t (token at to u ts first rest) is = token at t.end u (ts ++ t ∷ []) first (and_token t rest is)
