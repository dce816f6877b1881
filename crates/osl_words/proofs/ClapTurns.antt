-- What one word does to a parse whose arguments are each used once, have no short names, and long names that are their ids.
use Rattle.std.proofs.Common.{inl, inr, ◌≡◌, ◌≢◌, ℕ, zero, suc, List, [], ◌∷◌, ◌++◌, Bool, true, false, cond, Option, Some, None, refl, ap, sym, ◌∙◌, subst, arith}
use Rattle.std.specs.Prelude.{◌⊎◌, find, slice_get, ◌||◌, ◌&&◌, ◌==◌, not, is_some, length, drop, encode_utf8, codes, option_map, nat_lt, if◌then◌else◌}
use Rattle.std.specs.List.{list_any, before_first}
use Rattle.std.specs.Option.{option_map_or}
use Rattle.std.specs.Str.{bytes_eq, chars}
use Rattle.std.proofs.lemmas.Bool.{or_parts, false≢true, eq-eqb, eqb-true}
use Rattle.std.proofs.lemmas.Option.{none-some, same_Some}
use Rattle.clap.specs.Lexer.{long_of, short_of, strip_byte, name_and_value, has_byte}
use Rattle.clap.specs.Walk.{Held, Names, Outcome, Row, Rule, Step, Text, Waiting, Walk, action_of, arg_by_id, arg_by_index, arg_by_long, arg_by_short, has_long, has_short, is_multiple, is_pending, most_values, takes_several, takes_values, used, values_or_missing}
use Rattle.clap.specs.Walk.{settled, settled_rows, used_by_id, reacted, started, pushed, pending_count, option_met, flag_met, long_met, bundle_met, plain_word, after_flag, long_word, bundle, short_word, short_or_plain, long_or_other, subcommand_met, subcommand_or_other, word_met, positional_held, to_positional, after_step, walked, walked_from, done, waits, plain, refused, idle, option, positional, next, trailing, subcommand, value}
use Rattle.clap.specs.Faults.{turn_fault, word_fault, step_fault, settle_fault, react_fault, use_fault, long_fault, flag_word_fault, flags_fault, bundle_fault, stray_fault, positional_fault, other_fault, option_fault}
use Rattle.clap.specs.Kinds.{or_else}
use Rattle.clap.specs.Simple.{Shape}
use Rattle.clap.specs.declared.error.kind.ErrorKind.TheVariants as kind
use Rattle.clap.proofs.CutLemmas.{Lacks, before_first-Lacks}
use Rattle.osl_words.proofs.Rows.{IsOnce, neither}

abbrev pub serial_id : Text
serial_id = codes "serial"

abbrev pub serial_word : Text
serial_word = codes "--serial"

-- ---- the arguments

-- an argument that is used at most once, and is named by its id alone or by its place
pub record IsPlainRule (a : Rule) : Type 0 where
  pub once : IsOnce a
  pub single : takes_several a ≡ false
  pub no_short : (x : ℕ) → has_short a x ≡ false
  pub own_name : (name : Text) → (not (is_some a.index) && has_long a name) ≡ true → name ≡ a.id
  pub place : (i : ℕ) → option_map_or (λ k. k == i) a.index false ≡ true → (a.id ≡ codes "group") ⊎ (a.id ≡ codes "points")
  pub serial : a.id ≡ serial_id → (takes_values a ≡ false) × (a.defaults ≡ codes "false" ∷ []) × (a.missing ≡ codes "true" ∷ [])

abbrev pub EachRule : (Rule → Type 0) → List Rule → Type 0
EachRule P [] = Unit {0}
EachRule P (a ∷ rules) = P a × EachRule P rules

pub found_rule : (P : Rule → Type 0) (test : Rule → Bool) (rules : List Rule) (a : Rule) → EachRule P rules → find test rules ≡ Some a → P a × (test a ≡ true)
found_rule P test [] a each e = absurd (none-some a e)
found_rule P test (x ∷ rules) a each e =
    elim (test x) as (λ v. test x ≡ v → cond v (Some x) (find test rules) ≡ Some a → P a × (test a ≡ true)) [
      | true ↦ λ passes d. let same : x ≡ a = same_Some x a d in (subst P same each.0, subst (λ (y : Rule). test y ≡ true) same passes)
      | false ↦ λ _ d. found_rule P test rules a each.1 d
    ] refl e

no_rule : (test : Rule → Bool) (rules : List Rule) → EachRule (λ a. test a ≡ false) rules → find test rules ≡ None
no_rule test [] each = refl
no_rule test (x ∷ rules) each = rw each.0 (no_rule test rules each.1)

each_rule : (P Q : Rule → Type 0) (rules : List Rule) → ((a : Rule) → P a → Q a) → EachRule P rules → EachRule Q rules
each_rule P Q [] f each = tt
each_rule P Q (a ∷ rules) f each = (f a each.0, each_rule P Q rules f each.1)

-- ---- one word

-- What a word did: nothing to what was found; a use of an argument; the beginning of an option; a value of an option; or a positional.
pub data Turn (c : List Rule) (w : Walk) (word : Text) (n : Walk) : Type 0 where
  keeps : n.held.rows ≡ w.held.rows → n.held.pending ≡ w.held.pending → n.waiting ≡ w.waiting → word ≢ serial_word → Turn c w word n
  uses : (a : Rule) (values : List Text) → IsPlainRule a → settle_fault c false w.held ≡ []
      → use_fault false a values (settled_rows c w.held.pending w.held.rows) ≡ []
      → n.held.rows ≡ used a values (settled_rows c w.held.pending w.held.rows) → n.held.pending ≡ None → n.waiting ≡ idle
      → (a.id ≡ serial_id → word ≡ serial_word) → (word ≡ serial_word → (a.id ≡ serial_id) × (values ≡ [])) → Turn c w word n
  opens : (a : Rule) → IsPlainRule a → settle_fault c false w.held ≡ []
      → n.held.rows ≡ settled_rows c w.held.pending w.held.rows → n.held.pending ≡ Some (a.id, []) → n.waiting ≡ option a.id
      → a.id ≢ serial_id → word ≢ serial_word → Turn c w word n
  fills : (id : Text) → w.waiting ≡ option id → n.held.rows ≡ w.held.rows
      → n.held.pending ≡ Some ((started id w.held.pending).0, (started id w.held.pending).1 ++ word ∷ [])
      → (n.waiting ≡ option id) ⊎ (n.waiting ≡ idle) → word ≢ serial_word → Turn c w word n
  places : (a : Rule) → IsPlainRule a → settle_fault c false w.held ≡ []
      → n.held.rows ≡ settled_rows c w.held.pending w.held.rows → n.held.pending ≡ Some (a.id, word ∷ []) → n.waiting ≡ idle
      → (a.id ≡ codes "group") ⊎ (a.id ≡ codes "points") → Turn c w word n

abbrev pub Turned : List Rule → Walk → Text → Walk → Type 0
Turned c w word n = (n.stopped ≡ None) × Turn c w word n

-- what the parse of `shade` is told of its arguments
pub record IsShade (s : Shape) : Type 0 where
  pub again : s.args_override_self ≡ false
  pub each : EachRule IsPlainRule s.rules

-- ---- a word that is no flag

-- what is held, with no flags of a bundle to pass over
abbrev SameHeld : Held → Held → Type 0
SameHeld h g = (h.rows ≡ g.rows) × (h.pending ≡ g.pending)

once_is_single : (a : Rule) → IsPlainRule a → is_multiple a ≡ false
once_is_single a p = rw p.single (by p.once)
  where
    by : IsOnce a → Rattle.clap.specs.Walk.is_append (action_of a) ≡ false
    by (inl set) = rw set refl
    by (inr flag) = rw flag refl

stray_is_fault : (s : Shape) → stray_fault s ≡ [] → ⊥
stray_is_fault s e = elim (s.is_leaf) as (λ v. cond v (kind.UnknownArgument ∷ []) (kind.UnknownArgument ∷ kind.InvalidSubcommand ∷ []) ≡ [] → ⊥) [ true ↦ λ d. cc | false ↦ λ d. cc ] e

-- a word for a positional, over what is held in the end
at_place : (s : Shape) (w : Walk) (word : Text) (h : Held) (found : Option Rule) → IsShade s → w.stopped ≡ None → SameHeld h w.held → arg_by_index s.rules w.position ≡ found
    → option_map_or (λ a. positional_fault s.rules s.args_override_self a h) found (stray_fault s) ≡ [] → Turned s.rules w word (to_positional s.rules found word w h)
at_place s w word h None is none same e fault = absurd (stray_is_fault s fault)
at_place s w word h (Some a) is none same e fault =
    let found = found_rule IsPlainRule (λ x. option_map_or (λ k. k == w.position) x.index false) s.rules a is.each e in
    let p : IsPlainRule a = found.0 in
    by p found.1
  where
    by : IsPlainRule a → option_map_or (λ k. k == w.position) a.index false ≡ true → Turned s.rules w word (to_positional s.rules (Some a) word w h)
    by p at =
        let one : (is_pending a h.pending && takes_several a) ≡ false = rw p.single (Rattle.std.proofs.Math.Bool.and-false (is_pending a h.pending)) in
        let clean : settle_fault s.rules false w.held ≡ [] = rw (one, is.again, same.0, same.1) at fault in (
          refl,
          places a p clean
              (rw (one, same.0, same.1) refl)
              (rw one refl)
              (rw (once_is_single a p) refl)
              (p.place w.position at),
        )

-- a word that is no flag
at_plain : (s : Shape) (w : Walk) (word : Text) (h : Held) (waits_for : Waiting) → IsShade s → w.stopped ≡ None → word ≢ serial_word → w.waiting ≡ waits_for → SameHeld h w.held
    → step_fault s w.position (plain_word s.rules waits_for word h).0 (plain_word s.rules waits_for word h).1 ≡ []
    → Turned s.rules w word (after_step s.rules word w (plain_word s.rules waits_for word h).0 (plain_word s.rules waits_for word h).1)
at_plain s w word h idle is none other e same fault = at_place s w word h (arg_by_index s.rules w.position) is none same refl fault
at_plain s w word h positional is none other e same fault = at_place s w word h (arg_by_index s.rules w.position) is none same refl fault
at_plain s w word h (option id) is none other e same fault = by (arg_by_id s.rules id)
  where
    more : Rule → Waiting
    more a = cond (nat_lt (pending_count a (pushed id word h).pending) (most_values a)) (option id) idle

    two : (b : Bool) → (cond b (option id) idle ≡ option id) ⊎ (cond b (option id) idle ≡ idle)
    two true = inl refl
    two false = inr refl

    by : (found : Option Rule) → Turned s.rules w word (after_step s.rules word w (Rattle.clap.specs.Walk.option_word found id word h).0 (next (Rattle.clap.specs.Walk.option_word found id word h).1))
    by None = (none, keeps same.0 same.1 (sym e) other)
    by (Some a) = (none, fills id e same.0 (ap (λ p. Some ((started id p).0, (started id p).1 ++ word ∷ [])) same.1) (two (nat_lt (pending_count a (pushed id word h).pending) (most_values a))) other)

-- ---- a bundle of short names, of which there are none

no_short_rule : (s : Shape) → IsShade s → (x : ℕ) → arg_by_short s.rules x ≡ None
no_short_rule s is x =
    no_rule (λ a. not (is_some a.index) && has_short a x) s.rules
    (each_rule IsPlainRule (λ a. (not (is_some a.index) && has_short a x) ≡ false) s.rules (λ a p. rw (p.no_short x) (Rattle.std.proofs.Math.Bool.and-false (not (is_some a.index)))) is.each)

bundle_is_plain : (s : Shape) → IsShade s → (k : ℕ) (flags : Text) (skip : ℕ) (h : Held) → flags_fault s.rules false k flags skip h ≡ [] → bundle_met s.rules k flags skip plain h ≡ (h, plain)
unfolding flags_fault bundle_met
bundle_is_plain s is zero flags skip h fault = refl
bundle_is_plain s is (suc k) flags skip h fault = by (slice_get (chars flags) 0) skip (λ rest less. bundle_is_plain s is k rest less h) fault
  where
    by : (first : Option ℕ) (skip : ℕ) → ((rest : Text) (less : ℕ) → flags_fault s.rules false k rest less h ≡ [] → bundle_met s.rules k rest less plain h ≡ (h, plain))
        → Rattle.clap.specs.Faults.bundle_step_fault s.rules false first flags skip h (flags_fault s.rules false k) ≡ []
        → Rattle.clap.specs.Walk.bundle_step s.rules first flags skip plain h (bundle_met s.rules k) ≡ (h, plain)
    by None skip more f = refl
    by (Some x) zero more f = let g = rw (no_short_rule s is x) at f in absurd (cc)
    by (Some x) (suc skip) more f = more (drop (length (encode_utf8 x)) flags) skip f

-- ---- a long name

spelled : (word rest : Text) → strip_byte 45 word ≡ Some rest → word ≡ 45 ∷ rest
spelled [] rest e = absurd (none-some rest e)
spelled (x ∷ xs) rest e = elim (x == 45) as (λ v. (x == 45) ≡ v → cond v (Some xs) None ≡ Some rest → x ∷ xs ≡ 45 ∷ rest) [
  | true ↦ λ is d. let first : x ≡ 45 = eqb-true x 45 is in let more : xs ≡ rest = same_Some xs rest d in cc
  | false ↦ λ _ d. absurd (none-some rest d)
] refl e

lacks : (text : Text) → has_byte 61 text ≡ false → Lacks 61 text
lacks [] h i lt e = omega (arith, lt)
lacks (x ∷ xs) h zero lt e = false≢true (sym (or_parts (x == 61) (has_byte 61 xs) h).0 ∙ eq-eqb x 61 e)
lacks (x ∷ xs) h (suc i) lt e = lacks xs (or_parts (x == 61) (has_byte 61 xs) h).1 i (omega arith) e

-- `--NAME` with no value is the word of its name
name_alone : (text name : Text) → name_and_value text ≡ (name, None) → text ≡ name
name_alone text name e =
    elim (has_byte 61 text) as (λ v. has_byte 61 text ≡ v → text ≡ name) [
      | true ↦ λ has. let none : Some (Rattle.std.specs.List.after_first (λ x. x == 61) text) ≡ None = sym (rw has refl) ∙ ap (λ p. p.1) e in absurd (cc)
      | false ↦ λ no. sym (before_first-Lacks 61 text (lacks text no)) ∙ ap (λ p. p.0) e
    ] refl

rest_alone : (rest name : Text) → Rattle.clap.specs.Lexer.long_of_rest rest ≡ Some (name, None) → rest ≡ name
rest_alone [] name e = absurd (none-some _ e)
rest_alone (x ∷ xs) name e = name_alone (x ∷ xs) name (same_Some _ _ e)

word_of_name : (word name : Text) → long_of word ≡ Some (name, None) → word ≡ 45 ∷ 45 ∷ name
word_of_name word name e = by (strip_byte 45 word) refl e
  where
    twice : (rest : Text) (second : Option Text) → word ≡ 45 ∷ rest → strip_byte 45 rest ≡ second → Rattle.std.specs.Prelude.option_and_then Rattle.clap.specs.Lexer.long_of_rest second ≡ Some (name, None) → word ≡ 45 ∷ 45 ∷ name
    twice rest None f g d = absurd (none-some _ d)
    twice rest (Some last) f g d = f ∙ ap (λ r. 45 ∷ r) (spelled rest last g ∙ ap (λ r. 45 ∷ r) (rest_alone last name d))

    by : (first : Option Text) → strip_byte 45 word ≡ first → Rattle.std.specs.Prelude.option_and_then Rattle.clap.specs.Lexer.long_of_rest (Rattle.std.specs.Prelude.option_and_then (strip_byte 45) first) ≡ Some (name, None) → word ≡ 45 ∷ 45 ∷ name
    by None f d = absurd (none-some _ d)
    by (Some rest) f d = twice rest (strip_byte 45 rest) (spelled word rest f) refl d

-- ---- a word that is no subcommand

-- `--name` or `--name=value`
at_long : (s : Shape) (w : Walk) (word name : Text) (v : Option Text) (found : Option Rule) → IsShade s → w.stopped ≡ None → long_of word ≡ Some (name, v) → arg_by_long s.rules name ≡ found
    → long_fault s.rules false found v w.held ≡ []
    → Turned s.rules w word (after_step s.rules word w (after_flag s.rules w.waiting word (long_met s.rules found v w.held).0 (long_met s.rules found v w.held).1).0
    (after_flag s.rules w.waiting word (long_met s.rules found v w.held).0 (long_met s.rules found v w.held).1).1)
at_long s w word name v None is none e f fault = absurd (cc)
at_long s w word name v (Some a) is none e f fault =
    let found = found_rule IsPlainRule (λ x. not (is_some x.index) && has_long x name) s.rules a is.each f in
    let p : IsPlainRule a = found.0 in
    let named : name ≡ a.id = p.own_name name found.1 in
    elim (takes_values a) as (λ b. takes_values a ≡ b → cond b (option_fault s.rules false a v w.held) (cond (is_some v) (kind.TooManyValues ∷ []) (react_fault s.rules false a [] w.held)) ≡ []
    → Turned s.rules w word (after_step s.rules word w
    (after_flag s.rules w.waiting word (cond b (option_met s.rules a v w.held) (flag_met s.rules a v w.held)).0 (cond b (option_met s.rules a v w.held) (flag_met s.rules a v w.held)).1).0
    (after_flag s.rules w.waiting word (cond b (option_met s.rules a v w.held) (flag_met s.rules a v w.held)).0 (cond b (option_met s.rules a v w.held) (flag_met s.rules a v w.held)).1).1)) [
      | true ↦ λ takes g. an_option v p named takes e g
      | false ↦ λ flag g. a_flag v p named e g
    ] refl fault
  where
    none_attached : (v : Option Text) → long_of word ≡ Some (name, v) → word ≡ serial_word → (name ≡ serial_id) × (v ≡ None)
    none_attached v d same =
        let both : (name, v) ≡ (serial_id, None) = same_Some (name, v) (serial_id, None) (sym d ∙ ap long_of same) in
        (ap (λ p. p.0) both, ap (λ p. p.1) both)

    no_serial : IsPlainRule a → takes_values a ≡ true → a.id ≡ serial_id → ⊥
    no_serial p takes same = false≢true (sym (p.serial same).0 ∙ takes)

    an_option : (v : Option Text) → IsPlainRule a → name ≡ a.id → takes_values a ≡ true → long_of word ≡ Some (name, v) → option_fault s.rules false a v w.held ≡ []
        → Turned s.rules w word (after_step s.rules word w (after_flag s.rules w.waiting word (option_met s.rules a v w.held).0 (option_met s.rules a v w.held).1).0
        (after_flag s.rules w.waiting word (option_met s.rules a v w.held).0 (option_met s.rules a v w.held).1).1)
    an_option (Some x) p named takes d g =
        let clean = neither _ _ g in (
          none,
          uses a (x ∷ []) p clean.0 clean.1 refl refl refl (λ same. absurd (no_serial p takes same))
              (λ same. absurd (no_serial p takes (sym named ∙ (none_attached (Some x) d same).0))),
        )
    an_option None p named takes d g = (none, opens a p g refl refl refl (no_serial p takes) (λ same. no_serial p takes (sym named ∙ (none_attached None d same).0)))

    a_flag : (v : Option Text) → IsPlainRule a → name ≡ a.id → long_of word ≡ Some (name, v) → cond (is_some v) (kind.TooManyValues ∷ []) (react_fault s.rules false a [] w.held) ≡ []
        → Turned s.rules w word (after_step s.rules word w (after_flag s.rules w.waiting word (flag_met s.rules a v w.held).0 (flag_met s.rules a v w.held).1).0
        (after_flag s.rules w.waiting word (flag_met s.rules a v w.held).0 (flag_met s.rules a v w.held).1).1)
    a_flag (Some x) p named d g = absurd (cc)
    a_flag None p named d g =
        let clean = neither _ _ g in (
          none,
          uses a [] p clean.0 clean.1 refl refl refl (λ same. word_of_name word name d ∙ ap (λ n. 45 ∷ 45 ∷ n) (named ∙ same))
              (λ same. (sym named ∙ (none_attached None d same).0, refl)),
        )

at_short : (s : Shape) (w : Walk) (word : Text) (flags : Option Text) → IsShade s → w.stopped ≡ None → word ≢ serial_word
    → or_else (option_map_or (λ f. bundle_fault s.rules false f w.held) flags [])
    (step_fault s w.position (short_or_plain s.rules w.waiting word flags w.held).0 (short_or_plain s.rules w.waiting word flags w.held).1) ≡ []
    → Turned s.rules w word (after_step s.rules word w (short_or_plain s.rules w.waiting word flags w.held).0 (short_or_plain s.rules w.waiting word flags w.held).1)
at_short s w word None is none other fault = at_plain s w word w.held w.waiting is none other refl (refl, refl) fault
at_short s w word (Some flags) is none other fault =
    let clean = neither _ _ fault in
    let bare : Held = record w.held { skip = 0 } in
    let is_plain : bundle s.rules flags w.held ≡ (bare, plain) = bundle_is_plain s is (length flags) flags w.held.skip bare clean.0 in
    let P : Held × Outcome → Type 0 = λ met. Turned s.rules w word (after_step s.rules word w (after_flag s.rules w.waiting word met.0 met.1).0 (after_flag s.rules w.waiting word met.0 met.1).1) in
    let Q : Held × Outcome → Type 0 = λ met. step_fault s w.position (after_flag s.rules w.waiting word met.0 met.1).0 (after_flag s.rules w.waiting word met.0 met.1).1 ≡ [] in
    subst P (sym is_plain) (at_plain s w word bare w.waiting is none other refl (refl, refl) (subst Q is_plain clean.1))

at_word : (s : Shape) (w : Walk) (word : Text) (long : Option (Text × Option Text)) → IsShade s → w.stopped ≡ None → long_of word ≡ long
    → or_else (flag_word_fault s.rules false long word w.held) (step_fault s w.position (long_or_other s.rules w.waiting word long w.held).0 (long_or_other s.rules w.waiting word long w.held).1) ≡ []
    → Turned s.rules w word (after_step s.rules word w (long_or_other s.rules w.waiting word long w.held).0 (long_or_other s.rules w.waiting word long w.held).1)
at_word s w word (Some p) is none e fault = at_long s w word p.0 p.1 (arg_by_long s.rules p.0) is none e refl (neither _ _ fault).0
at_word s w word None is none e fault = at_short s w word (short_of word) is none (λ same. none-some _ (sym e ∙ ap long_of same)) fault

no_subcommand : (waiting : Waiting) (word : Text) → subcommand_met [] waiting word ≡ None
no_subcommand idle word = refl
no_subcommand (option id) word = refl
no_subcommand positional word = refl

-- a word that may be a flag
at_any : (s : Shape) (w : Walk) (word : Text) (sub : Option Text) → IsShade s → w.stopped ≡ None → sub ≡ None
    → or_else (other_fault s sub word w.held) (step_fault s w.position (subcommand_or_other s.rules sub w.waiting w.position word w.held).0 (subcommand_or_other s.rules sub w.waiting w.position word w.held).1) ≡ []
    → Turned s.rules w word (after_step s.rules word w (subcommand_or_other s.rules sub w.waiting w.position word w.held).0 (subcommand_or_other s.rules sub w.waiting w.position word w.held).1)
at_any s w word (Some name) is none e fault = absurd (cc)
at_any s w word None is none e fault =
    elim (bytes_eq word (45 ∷ 45 ∷ [])) as (λ b. bytes_eq word (45 ∷ 45 ∷ []) ≡ b → or_else (cond b [] (flag_word_fault s.rules s.args_override_self (long_of word) word w.held))
    (step_fault s w.position (cond b (w.held, trailing w.position) (long_or_other s.rules w.waiting word (long_of word) w.held)).0 (cond b (w.held, trailing w.position) (long_or_other s.rules w.waiting word (long_of word) w.held)).1) ≡ []
    → Turned s.rules w word (after_step s.rules word w (cond b (w.held, trailing w.position) (long_or_other s.rules w.waiting word (long_of word) w.held)).0 (cond b (w.held, trailing w.position) (long_or_other s.rules w.waiting word (long_of word) w.held)).1)) [
      | true ↦ λ dashes _. (none, keeps refl refl refl (λ same. false≢true (sym (ap (λ x. bytes_eq x (45 ∷ 45 ∷ [])) same) ∙ dashes)))
      | false ↦ λ _ f. at_word s w word (long_of word) is none refl
          (subst (λ (again : Bool). or_else (flag_word_fault s.rules again (long_of word) word w.held)
          (step_fault s w.position (long_or_other s.rules w.waiting word (long_of word) w.held).0 (long_or_other s.rules w.waiting word (long_of word) w.held).1) ≡ []) is.again f)
    ] refl fault

-- what one word does
pub turn : (s : Shape) (w : Walk) (word : Text) → IsShade s → w.stopped ≡ None → turn_fault s [] w word ≡ [] → Turned s.rules w word (walked s.rules [] w word)
unfolding walked
turn s w word is none fault =
    let clear : or_else (word_fault s [] w.is_trailing w.waiting word w.held)
    (step_fault s w.position (word_met s.rules [] w.is_trailing w.waiting w.position word w.held).0 (word_met s.rules [] w.is_trailing w.waiting w.position word w.held).1) ≡ [] =
    subst (λ (stopped : Option (Text × List Text)). cond (is_some stopped) [] (or_else (word_fault s [] w.is_trailing w.waiting word w.held)
    (step_fault s w.position (word_met s.rules [] w.is_trailing w.waiting w.position word w.held).0 (word_met s.rules [] w.is_trailing w.waiting w.position word w.held).1)) ≡ []) none fault in
    subst (λ (stopped : Option (Text × List Text)). Turned s.rules w word (walked_from s.rules [] stopped w word)) (sym none) (by w.is_trailing clear)
  where
    by : (is_trailing : Bool) → or_else (word_fault s [] is_trailing w.waiting word w.held)
        (step_fault s w.position (word_met s.rules [] is_trailing w.waiting w.position word w.held).0 (word_met s.rules [] is_trailing w.waiting w.position word w.held).1) ≡ []
        → Turned s.rules w word (after_step s.rules word w (word_met s.rules [] is_trailing w.waiting w.position word w.held).0 (word_met s.rules [] is_trailing w.waiting w.position word w.held).1)
    by true f = at_place s w word w.held (arg_by_index s.rules w.position) is none (refl, refl) refl f
    by false f = at_any s w word (subcommand_met [] w.waiting word) is none (no_subcommand w.waiting word) f
