-- How puts add up.
use Rattle.std.proofs.Common.{◌≡◌, ℕ, ◌+◌, List, [], ◌++◌, length, take, Option, Some, None, ap, sym, ◌∙◌, arith, append_assoc, length-append}
use Rattle.std.proofs.lemmas.List.{take_all, append-nil, take-append-le}
use Rattle.std.proofs.Math.Seq.{take-append-add}
use Rattle.std.specs.Io.KnownBytes.{Appends, Keeps}
use Rattle.osl_store.specs.Views.{SinkView}
use Rattle.osl_store.specs.Written.{Wrote, WroteFront, WroteNothing}

appends-nothing : (o : Option (List ℕ)) → Appends o o []
appends-nothing None = _
appends-nothing (Some xs) = sym (append-nil xs)

appends-then : (o m n : Option (List ℕ)) (a b : List ℕ) → Appends o m a → Appends m n b → Appends o n (a ++ b)
appends-then None m n a b p q = _
appends-then (Some xs) None n a b p q = absurd p
appends-then (Some xs) (Some ys) None a b p q = absurd q
appends-then (Some xs) (Some ys) (Some zs) a b p q = q ∙ ap (λ l. l ++ b) p ∙ append_assoc xs a b

keeps-appends : (o n : Option (List ℕ)) → Keeps o n → Appends o n []
keeps-appends None n p = _
keeps-appends (Some xs) None p = absurd p
keeps-appends (Some xs) (Some ys) p = p ∙ sym (append-nil xs)

pub nothing : (sink : SinkView) → Wrote sink sink []
nothing sink = appends-nothing sink.written

pub both : (first next last : SinkView) (a b : List ℕ) → Wrote first next a → Wrote next last b → Wrote first last (a ++ b)
both first next last a b p q = appends-then first.written next.written last.written a b p q

-- after some whole pieces, a front of the next is a front of all
pub front : (first next last : SinkView) (a b rest : List ℕ) → Wrote first next a → WroteFront next last b → WroteFront first last (a ++ (b ++ rest))
front first next last a b rest p (k, within, q) =
    let cut : take (length a + k) (a ++ (b ++ rest)) ≡ a ++ take k b = take-append-add a (b ++ rest) k ∙ ap (λ l. a ++ l) (take-append-le k b rest within) in
    (length a + k, omega (arith, length-append a (b ++ rest), length-append b rest), rw cut (both first next last a (take k b) p q))

pub unwritten : (first next last : SinkView) (a rest : List ℕ) → Wrote first next a → WroteNothing next last → WroteFront first last (a ++ rest)
unwritten first next last a rest p q =
    front first next last a [] rest p (0, omega arith, keeps-appends next.written last.written q)

pub whole : (first last : SinkView) (text : List ℕ) → Wrote first last text → WroteFront first last text
whole first last text p = (length text, omega arith, rw (take_all (length text) text (omega arith)) p)
