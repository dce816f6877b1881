-- What the words of a job say of it.
use Rattle.std.proofs.Common.{inl, inr, ◌^◌, ◌≡◌, ◌≤◌, ℕ, List, [], ◌∷◌, Bool, true, false, cond, Option, Some, None, refl, ap, sym, ◌∙◌, subst, arith}
use Rattle.std.specs.Prelude.{◌⊎◌, ◌||◌, ◌&&◌, ◌==◌, not, codes, length, is_some, option_and_then, nat_le, nat_lt}
use Rattle.std.specs.Option.{option_map_or}
use Rattle.std.specs.Str.{bytes_eq}
use Rattle.std.specs.Str.Parse.{digits_value, without_leading_plus}
use Rattle.std.proofs.Math.Bool.{or-false}
use Rattle.std.proofs.lemmas.Bool.{and_parts, or_parts, false≢true}
use Rattle.std.proofs.lemmas.Option.{none-some, same_Some}
use Rattle.clap.specs.Walk.{Row, Text, first_of, finished, nothing_held, walk, walk_from}
use Rattle.clap.specs.Faults.{fault_of, level_fault, settle_fault, walk_fault}
use Rattle.clap.specs.Kinds.{Kinds}
use Rattle.clap.specs.Simple.{App, Shape, built, filled, matches_of, with_index}
use Rattle.osl_words.specs.Arguments.{required, option, flag, command_with, matched, given, is_set, number_in, number_or}
use Rattle.osl_words.specs.Shade.{shade, shade_job, from_oso, names_flag, agrees}
use Rattle.osl_words.specs.Oslc.{oslc, oslc_job}
use Rattle.osl_words.specs.Demo.{demo, demo_text, size_in}
use Rattle.osl_words.specs.Usage.{Usage, asked}
use Rattle.osl_words.specs.Words.{job_of, is_among, later}
use Rattle.osl_words.specs.declared.job.Job.{Job}
use Rattle.osl_words.specs.declared.job.Job.TheVariants as jobs
use Rattle.osl_words.specs.declared.job.ShadeJob.{ShadeJob}
use Rattle.osl_words.proofs.Rows.{neither, text_is, same_text, text_differs}
use Rattle.osl_words.proofs.ClapTurns.{EachRule, IsPlainRule, IsShade, serial_id, serial_word}
use Rattle.osl_words.proofs.Serial.{HasArguments, EndsSerial, flag_set, group_named, points_named, among, not_among}

-- ---- steps

some_bound : {A B : Type 0} → (o : Option A) (f : A → Option B) (b : B) → option_and_then f o ≡ Some b → (a : A) × (o ≡ Some a) × (f a ≡ Some b)
some_bound None f b e = absurd (none-some b e)
some_bound (Some a) f b e = (a, refl, e)

-- ---- which command

data AskedBy (words : List Text) (job : Job) : Type 0 where
  by_shade : asked shade words ≡ Some job → AskedBy words job
  by_oslc : asked oslc words ≡ Some job → AskedBy words job
  by_demo : asked demo words ≡ Some job → AskedBy words job
  by_demo_text : asked demo_text words ≡ Some job → AskedBy words job

chosen : (words : List Text) (job : Job) (a b c d : Bool)
    → option_and_then (λ usage. asked usage words) (cond a (Some shade) (cond b (Some oslc) (cond c (Some demo) (cond d (Some demo_text) None)))) ≡ Some job → AskedBy words job
chosen words job true b c d e = by_shade e
chosen words job false true c d e = by_oslc e
chosen words job false false true d e = by_demo e
chosen words job false false false true e = by_demo_text e
chosen words job false false false false e = absurd (none-some job e)

command_of : (words : List Text) (job : Job) → job_of words ≡ Some job → AskedBy words job
command_of [] job e = absurd (none-some job e)
command_of (name ∷ words) job e =
    chosen (name ∷ words) job (bytes_eq name (codes "shade")) (bytes_eq name (codes "oslc")) (bytes_eq name (codes "demo")) (bytes_eq name (codes "demo-text")) e

-- ---- numbers

number_fits : (least most n : ℕ) (text : Text) → number_in least most text ≡ Some n → (least ≤ n) × (n ≤ most)
number_fits least most n text e = by (Rattle.clap.specs.ValueTests.is_unsigned_in least most text) refl e
  where
    by : (b : Bool) → Rattle.clap.specs.ValueTests.is_unsigned_in least most text ≡ b → cond b (Some (digits_value 10 (without_leading_plus text))) None ≡ Some n → (least ≤ n) × (n ≤ most)
    by false f d = absurd (none-some n d)
    by true f d =
        let value = digits_value 10 (without_leading_plus text) in
        let is : value ≡ n = same_Some value n d in
        let parts = and_parts (Rattle.clap.specs.ValueTests.is_numeral (without_leading_plus text)) (nat_lt value (2 ^ 64) && (nat_le least value && nat_le value most)) f in
        let ends = and_parts (nat_le least value) (nat_le value most) (and_parts (nat_lt value (2 ^ 64)) (nat_le least value && nat_le value most) parts.1).1 in
        let low : least ≤ value = Rattle.std.proofs.lemmas.Bool.leb-true least value ends.0 in
        let high : value ≤ most = Rattle.std.proofs.lemmas.Bool.leb-true value most ends.1 in
        (omega arith, omega arith)

number_or_fits : (default least most n : ℕ) (text : Option Text) → least ≤ default → default ≤ most → number_or default least most text ≡ Some n → (least ≤ n) × (n ≤ most)
number_or_fits default least most n None low high e = let is : default ≡ n = same_Some default n e in (omega arith, omega arith)
number_or_fits default least most n (Some text) low high e = number_fits least most n text e

-- ---- the rows of each command

asked_rows : (usage : Usage) (words : List Text) (job : Job) → asked usage words ≡ Some job
    → (rows : List Row) × (matched (command_with usage.name usage.arguments) words ≡ Some rows) × (usage.job rows ≡ Some job)
asked_rows usage words job e = some_bound (matched (command_with usage.name usage.arguments) words) usage.job job e

oslc_names : (rows : List Row) (job : Job) → oslc_job rows ≡ Some job → (input : Text) × (output : Text) × (jobs.Oslc input output ≡ job)
oslc_names rows job e =
    let i = some_bound (given (codes "in") rows) (λ input. option_and_then (λ output. Some (jobs.Oslc input output)) (given (codes "out") rows)) job e in
    let o = some_bound (given (codes "out") rows) (λ output. Some (jobs.Oslc i.0 output)) job i.2 in
    (i.0, o.0, same_Some (jobs.Oslc i.0 o.0) job o.2)

sized_rows : (make : ℕ → Job) (rows : List Row) (job : Job) → option_and_then (λ n. Some (make n)) (size_in rows) ≡ Some job → (n : ℕ) × (size_in rows ≡ Some n) × (make n ≡ job)
sized_rows make rows job e =
    let n = some_bound (size_in rows) (λ k. Some (make k)) job e in
    (n.0, n.1, same_Some (make n.0) job n.2)

-- ---- the job of `shade`

record ShadeRows (rows : List Row) (job : Job) : Type 0 where
  group : Text
  group_is : given (codes "group") rows ≡ Some group
  points : Text
  points_is : given (codes "points") rows ≡ Some points
  workers : ℕ
  workers_are : number_or 4 1 16 (given (codes "workers") rows) ≡ Some workers
  budget : ℕ
  budget_is : number_or 65536 1 1000000 (given (codes "budget") rows) ≡ Some budget
  oso : Bool
  agreed : agrees group points (given (codes "edits") rows) (is_some (given (codes "workers") rows)) (is_set (codes "settle") rows) (is_set (codes "serial") rows) ≡ true
  is : jobs.Shade (record {
    group = group;
    points = points;
    edits = given (codes "edits") rows;
    workers = workers;
    budget = budget;
    settle = is_set (codes "settle") rows;
    serial = is_set (codes "serial") rows;
    from_oso = oso;
  }) ≡ job

if_some : (b : Bool) (x y : Job) → cond b (Some x) None ≡ Some y → (b ≡ true) × (x ≡ y)
if_some true x y e = (refl, same_Some x y e)
if_some false x y e = absurd (none-some y e)

shade_rows : (rows : List Row) (job : Job) → shade_job rows ≡ Some job → ShadeRows rows job
shade_rows rows job e =
    let a = some_bound _ _ job e in
    let b = some_bound _ _ job a.2 in
    let c = some_bound _ _ job b.2 in
    let d = some_bound _ _ job c.2 in
    let make : Bool → Job = λ oso. jobs.Shade (record {
      group = a.0;
      points = b.0;
      edits = given (codes "edits") rows;
      workers = c.0;
      budget = d.0;
      settle = is_set (codes "settle") rows;
      serial = is_set (codes "serial") rows;
      from_oso = oso;
    }) in
    let test : Bool = agrees a.0 b.0 (given (codes "edits") rows) (is_some (given (codes "workers") rows)) (is_set (codes "settle") rows) (is_set (codes "serial") rows) in
    let f = some_bound (from_oso (given (codes "from") rows)) (λ oso. cond test (Some (make oso)) None) job d.2 in
    let g = if_some test (make f.0) job f.2 in
    record { group = a.0; group_is = a.1; points = b.0; points_is = b.1; workers = c.0; workers_are = c.1; budget = d.0; budget_is = d.1; oso = f.0; agreed = g.0; is = g.1 }

-- the record of a job, out of the job
shade_of : Job → Option ShadeJob
shade_of (jobs.Shade job) = Some job
shade_of (jobs.Oslc input output) = None
shade_of (jobs.Demo n) = None
shade_of (jobs.DemoText n) = None

same_shade : (a b : ShadeJob) → jobs.Shade a ≡ jobs.Shade b → a ≡ b
same_shade a b e = cc

-- the rows of a job of `shade`
record OfRows (words : List Text) (job : ShadeJob) : Type 0 where
  rows : List Row
  matched_is : matched (command_with shade.name shade.arguments) words ≡ Some rows
  says : ShadeRows rows (jobs.Shade job)

of_rows : (words : List Text) (job : ShadeJob) → job_of words ≡ Some (jobs.Shade job) → OfRows words job
unfolding shade_of
of_rows words job e = by (command_of words (jobs.Shade job) e)
  where
    other : (j : Job) → j ≡ jobs.Shade job → shade_of j ≡ None → ⊥
    other j same none = let found : None ≡ Some job = sym none ∙ ap shade_of same in none-some job found

    by : AskedBy words (jobs.Shade job) → OfRows words job
    by (by_shade asks) = let m = asked_rows shade words (jobs.Shade job) asks in record { rows = m.0; matched_is = m.1; says = shade_rows m.0 (jobs.Shade job) m.2 }
    by (by_oslc asks) =
        let m = asked_rows oslc words (jobs.Shade job) asks in
        let names = oslc_names m.0 (jobs.Shade job) m.2 in
        absurd (other (jobs.Oslc names.0 names.1) names.2 refl)
    by (by_demo asks) =
        let m = asked_rows demo words (jobs.Shade job) asks in
        let size = sized_rows (λ n. jobs.Demo n) m.0 (jobs.Shade job) m.2 in
        absurd (other (jobs.Demo size.0) size.2 refl)
    by (by_demo_text asks) =
        let m = asked_rows demo_text words (jobs.Shade job) asks in
        let size = sized_rows (λ n. jobs.DemoText n) m.0 (jobs.Shade job) m.2 in
        absurd (other (jobs.DemoText size.0) size.2 refl)

pub workers_fit : (words : List Text) (job : ShadeJob) → job_of words ≡ Some (jobs.Shade job) → (1 ≤ job.workers) × (job.workers ≤ 16)
workers_fit words job e =
    let o = of_rows words job e in
    let r = o.says in
    let is : r.workers ≡ job.workers = ap (λ (j : ShadeJob). j.workers) (same_shade _ job r.is) in
    let fits = number_or_fits 4 1 16 r.workers (given (codes "workers") o.rows) (omega arith) (omega arith) r.workers_are in
    (rw (← is) fits.0, rw (← is) fits.1)

pub budget_fits : (words : List Text) (job : ShadeJob) → job_of words ≡ Some (jobs.Shade job) → (1 ≤ job.budget) × (job.budget ≤ 1000000)
budget_fits words job e =
    let o = of_rows words job e in
    let r = o.says in
    let is : r.budget ≡ job.budget = ap (λ (j : ShadeJob). j.budget) (same_shade _ job r.is) in
    let fits = number_or_fits 65536 1 1000000 r.budget (given (codes "budget") o.rows) (omega arith) (omega arith) r.budget_is in
    (rw (← is) fits.0, rw (← is) fits.1)

-- the number of `demo` and of `demo-text`
demo_of : Job → Option ℕ
demo_of (jobs.Shade job) = None
demo_of (jobs.Oslc input output) = None
demo_of (jobs.Demo n) = Some n
demo_of (jobs.DemoText n) = None

text_of : Job → Option ℕ
text_of (jobs.Shade job) = None
text_of (jobs.Oslc input output) = None
text_of (jobs.Demo n) = None
text_of (jobs.DemoText n) = Some n

-- ---- the arguments of `shade`

required_plain : (i : ℕ) (id : Text) → bytes_eq id serial_id ≡ false → (id ≡ codes "group") ⊎ (id ≡ codes "points") → IsPlainRule (with_index i (filled (required id)))
required_plain i id differs place = record {
  once = inl refl;
  single = refl;
  no_short = λ x. refl;
  own_name = λ name e. absurd (false≢true e);
  place = λ k e. place;
  serial = λ same. absurd (text_differs id serial_id differs same);
}

option_plain : (i : ℕ) (id : Text) → bytes_eq id serial_id ≡ false → IsPlainRule (with_index i (filled (option id)))
option_plain i id differs = record {
  once = inl refl;
  single = refl;
  no_short = λ x. refl;
  own_name = λ name e. sym (text_is id name (sym (or-false (bytes_eq id name)) ∙ e));
  place = λ k e. absurd (false≢true e);
  serial = λ same. absurd (text_differs id serial_id differs same);
}

flag_plain : (i : ℕ) (id : Text) → IsPlainRule (with_index i (filled (flag id)))
flag_plain i id = record {
  once = inr refl;
  single = refl;
  no_short = λ x. refl;
  own_name = λ name e. sym (text_is id name (sym (or-false (bytes_eq id name)) ∙ e));
  place = λ k e. absurd (false≢true e);
  serial = λ same. (refl, refl, refl);
}

abbrev shade_app : App
shade_app = command_with shade.name shade.arguments

shape : Shape
shape = (built shade_app).top

each_plain : EachRule IsPlainRule shape.rules
unfolding shape
each_plain = (
  required_plain 1 (codes "group") refl (inl refl),
  (
    required_plain 2 (codes "points") refl (inr refl),
    (
      option_plain 3 (codes "edits") refl,
      (
        option_plain 3 (codes "workers") refl,
        (
          option_plain 3 (codes "budget") refl,
          (
            flag_plain 3 (codes "settle"),
            (
              flag_plain 3 (codes "serial"),
              (
                option_plain 3 (codes "from") refl,
                tt,
              ),
            ),
          ),
        ),
      ),
    ),
  ),
)

is_shade : IsShade shape
unfolding shape
is_shade = record { again = refl; each = each_plain }

has_arguments : HasArguments shape.rules
unfolding shape
has_arguments = record {
  each = each_plain;
  group = with_index 1 (filled (required (codes "group")));
  group_is = refl;
  points = with_index 2 (filled (required (codes "points")));
  points_is = refl;
}

-- ---- what clap finds

no_kind : (kinds : Kinds) → length kinds ≡ 0 → kinds ≡ []
no_kind [] e = refl
no_kind (k ∷ kinds) e = absurd (omega (arith, e))

matched_rows : (app : App) (words : List Text) (rows : List Row) → matched app words ≡ Some rows → (fault_of app words ≡ []) × (matches_of app words ≡ rows)
unfolding matched
matched_rows app words rows e = by (length (fault_of app words) == 0) refl e
  where
    by : (b : Bool) → (length (fault_of app words) == 0) ≡ b → cond b (Some (matches_of app words)) None ≡ Some rows → (fault_of app words ≡ []) × (matches_of app words ≡ rows)
    by true f d = (no_kind (fault_of app words) (Rattle.std.proofs.lemmas.Bool.eqb-true _ 0 f), same_Some _ rows d)
    by false f d = absurd (none-some rows d)

clear_level : (s : Shape) (words : List Text) (has : Bool) (below : Kinds) → level_fault s [] nothing_held words has below ≡ []
    → (walk_fault s [] (walk_from nothing_held) words ≡ []) × (settle_fault s.rules s.args_override_self (walk s.rules [] nothing_held words).held ≡ [])
clear_level s words has below e =
    let a = neither _ _ e in
    let b = neither _ _ a.1 in
    let c = neither _ _ b.1 in
    (a.0, c.0)

shade_clear : (words : List Text) → fault_of shade_app words ≡ [] → (walk_fault shape [] (walk_from nothing_held) (later words) ≡ []) × (settle_fault shape.rules false (walk shape.rules [] nothing_held (later words)).held ≡ [])
unfolding shape
shade_clear words e = clear_level (built shade_app).top (later words) _ _ e

shade_rows_are : (words : List Text) → matches_of shade_app words ≡ finished shape.rules (walk shape.rules [] nothing_held (later words)).held
unfolding shape
shade_rows_are words = refl

-- ---- the law

set_true : (rows : List Row) → first_of serial_id rows ≡ Some (codes "true") → is_set serial_id rows ≡ true
set_true rows e = rw e refl

no_flag_names : (group points : Text) (edits : Option Text) (workers settle serial : Bool) → agrees group points edits workers settle serial ≡ true → (names_flag group ≡ false) × (names_flag points ≡ false)
no_flag_names group points edits workers settle serial e =
    let named = and_parts (not (names_flag group || names_flag points || option_map_or names_flag edits false)) (not (serial && (settle || workers))) e in
    let none : (names_flag group || names_flag points || option_map_or names_flag edits false) ≡ false = not_true _ named.0 in
    or_parts (names_flag group) (names_flag points) (or_parts (names_flag group || names_flag points) (option_map_or names_flag edits false) none).0
  where
    not_true : (b : Bool) → not b ≡ true → b ≡ false
    not_true true d = absurd (false≢true d)
    not_true false d = refl

pub serial_law : (words : List Text) (job : ShadeJob) → job_of words ≡ Some (jobs.Shade job) → job.serial ≡ is_among serial_word (later words)
serial_law words job e = sym serial_is ∙ by (is_among serial_word (later words)) refl
  where
    o : OfRows words job
    o = of_rows words job e

    r : ShadeRows o.rows (jobs.Shade job)
    r = o.says

    m : (fault_of shade_app words ≡ []) × (matches_of shade_app words ≡ o.rows)
    m = matched_rows shade_app words o.rows o.matched_is

    clear : (walk_fault shape [] (walk_from nothing_held) (later words) ≡ []) × (settle_fault shape.rules false (walk shape.rules [] nothing_held (later words)).held ≡ [])
    clear = shade_clear words m.0

    rows_are : finished shape.rules (walk shape.rules [] nothing_held (later words)).held ≡ o.rows
    rows_are = sym (shade_rows_are words) ∙ m.1

    serial_is : is_set serial_id o.rows ≡ job.serial
    serial_is = ap (λ (j : ShadeJob). j.serial) (same_shade _ job r.is)

    unnamed : (names_flag r.group ≡ false) × (names_flag r.points ≡ false)
    unnamed = no_flag_names r.group r.points (given (codes "edits") o.rows) (is_some (given (codes "workers") o.rows)) (is_set (codes "settle") o.rows) (is_set (codes "serial") o.rows) r.agreed

    named : (text : Text) (id : Text) → given id o.rows ≡ Some text → names_flag text ≡ false → first_of id o.rows ≡ Some serial_word → ⊥
    named text id is apart has =
        let same : text ≡ serial_word = same_Some text serial_word (sym is ∙ has) in
        false≢true (sym apart ∙ same_text text serial_word same)

    ends : EndsSerial o.rows → is_set serial_id o.rows ≡ true
    ends (flag_set f) = set_true o.rows f
    ends (group_named f) = absurd (named r.group (codes "group") r.group_is unnamed.0 f)
    ends (points_named f) = absurd (named r.points (codes "points") r.points_is unnamed.1 f)

    by : (here : Bool) → is_among serial_word (later words) ≡ here → is_set serial_id o.rows ≡ here
    by true h = ends (subst EndsSerial rows_are (among shape (later words) is_shade has_arguments clear.0 clear.1 h))
    by false h = ap (is_set serial_id) (sym rows_are) ∙ not_among shape (later words) is_shade clear.0 h

-- ---- the number of `demo` and of `demo-text`

size_fits : (rows : List Row) (n : ℕ) → size_in rows ≡ Some n → (1 ≤ n) × (n ≤ 256)
size_fits rows n e = let text = some_bound (given (codes "n") rows) (number_in 1 256) n e in number_fits 1 256 n text.0 text.2

-- a number that only one of the two commands gives
picked : (pick : Job → Option ℕ) (words : List Text) (job : Job) (n : ℕ) → pick job ≡ Some n → ((j : ShadeJob) → pick (jobs.Shade j) ≡ None) → ((a b : List ℕ) → pick (jobs.Oslc a b) ≡ None)
    → ((k : ℕ) → pick (jobs.Demo k) ≡ Some n → k ≡ n) → ((k : ℕ) → pick (jobs.DemoText k) ≡ Some n → k ≡ n) → AskedBy words job → (1 ≤ n) × (n ≤ 256)
picked pick words job n is no_shade no_oslc of_demo of_text (by_shade asks) =
    let m = asked_rows shade words job asks in
    let r = shade_rows m.0 job m.2 in
    absurd (none-some n (sym (no_shade _) ∙ ap pick r.is ∙ is))
picked pick words job n is no_shade no_oslc of_demo of_text (by_oslc asks) =
    let m = asked_rows oslc words job asks in
    let names = oslc_names m.0 job m.2 in
    absurd (none-some n (sym (no_oslc names.0 names.1) ∙ ap pick names.2 ∙ is))
picked pick words job n is no_shade no_oslc of_demo of_text (by_demo asks) =
    let m = asked_rows demo words job asks in
    let size = sized_rows (λ k. jobs.Demo k) m.0 job m.2 in
    let same : size.0 ≡ n = of_demo size.0 (ap pick size.2 ∙ is) in
    subst (λ (x : ℕ). (1 ≤ x) × (x ≤ 256)) same (size_fits m.0 size.0 size.1)
picked pick words job n is no_shade no_oslc of_demo of_text (by_demo_text asks) =
    let m = asked_rows demo_text words job asks in
    let size = sized_rows (λ k. jobs.DemoText k) m.0 job m.2 in
    let same : size.0 ≡ n = of_text size.0 (ap pick size.2 ∙ is) in
    subst (λ (x : ℕ). (1 ≤ x) × (x ≤ 256)) same (size_fits m.0 size.0 size.1)

pub demo_fits : (words : List Text) (n : ℕ) → job_of words ≡ Some (jobs.Demo n) → (1 ≤ n) × (n ≤ 256)
unfolding demo_of
demo_fits words n e =
    picked demo_of words (jobs.Demo n) n refl (λ j. refl) (λ a b. refl) (λ k d. same_Some k n d) (λ k d. absurd (none-some n d)) (command_of words (jobs.Demo n) e)

pub demo_text_fits : (words : List Text) (n : ℕ) → job_of words ≡ Some (jobs.DemoText n) → (1 ≤ n) × (n ≤ 256)
unfolding text_of
demo_text_fits words n e =
    picked text_of words (jobs.DemoText n) n refl (λ j. refl) (λ a b. refl) (λ k d. absurd (none-some n d)) (λ k d. same_Some k n d) (command_of words (jobs.DemoText n) e)
