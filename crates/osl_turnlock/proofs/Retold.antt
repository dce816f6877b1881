-- Steps that change the views alone: a view is cut in two, or two views are joined.
use Rattle.std.proofs.Common.{◌≡◌, ℕ, ◌<◌, ◌≤◌, ◌⊎◌, ⊎_elim, Bool, true, false, ltb, cond, List, length, sym, refl, ap, ◌∙◌, subst, arith, Option, Some, None, sum_by, is_some}
use Rattle.std.proofs.lemmas.Bool.Decides.{nat_tests}
use mathlib.Core.Option as maybe
use mathlib.Core.List.{IsPrefix}
use lib.ListN.{get_elem?}
use Rattle.osl_turnlock.specs.declared.board.Origin.{Origin}
use Rattle.osl_turnlock.specs.declared.board.Known.{Known}
use Rattle.osl_turnlock.specs.declared.board.Stage.{Stage}
use Rattle.osl_turnlock.specs.declared.board.Stage.TheVariants.{Idle}
use Rattle.osl_turnlock.specs.Growth.{KeepsMark, or_mark, longer, shorter}
use Rattle.osl_turnlock.specs.Views.{carries, has, busy_of, carries_of, parts_of, own_of, set_of, both}
use Rattle.osl_turnlock.specs.Rule.{Homes, Served, Lies, Numbered, Listed, Summed}
use Rattle.osl_turnlock.specs.Steps.{Learned, Joined}
use Rattle.osl_turnlock.proofs.Stages.{not_inside}
use Rattle.osl_turnlock.proofs.Prefixes.{prefix_self, prefix_shorter, prefix_whole, prefix_length}

module _ {E : Type 0} where
  pub longer_case : (F : List E → List E → Type 0) (xs ys : List E) → (length xs < length ys → F ys xs) → (length ys ≤ length xs → F xs ys) → F (longer xs ys) (shorter xs ys)
  longer_case F xs ys less more = by (ltb (length xs) (length ys)) refl
    where
      by : (b : Bool) → ltb (length xs) (length ys) ≡ b → F (cond b ys xs) (cond b xs ys)
      by true is = less (grind (arith, nat_tests, is))
      by false is = more (grind (arith, nat_tests, is))

  pub longer_begins : (xs ys log : List E) → IsPrefix xs log → IsPrefix ys log → IsPrefix (longer xs ys) log × IsPrefix (shorter xs ys) log
  longer_begins xs ys log p q = longer_case (λ a b. IsPrefix a log × IsPrefix b log) xs ys (λ _. (q, p)) (λ _. (p, q))

  pub longer_whole : (xs ys log : List E) → IsPrefix xs log → IsPrefix ys log → (xs ≡ log) ⊎ (ys ≡ log) → longer xs ys ≡ log
  longer_whole xs ys log p q one = longer_case (λ a b. a ≡ log) xs ys
      (λ less. ⊎_elim (λ e. let n = ap length e in let m = prefix_length ys log q in absurd (omega arith)) (λ e. e) one)
      (λ more. ⊎_elim (λ e. e) (λ e. let n = ap length e in prefix_whole xs log p (omega arith)) one)

  -- of two beginnings of one log each begins the longer
  pub longer_both : (xs ys log : List E) → IsPrefix (longer xs ys) log → IsPrefix (shorter xs ys) log → IsPrefix xs (longer xs ys) × IsPrefix ys (longer xs ys)
  longer_both xs ys log = longer_case (λ a b. IsPrefix a log → IsPrefix b log → IsPrefix xs a × IsPrefix ys a) xs ys
      (λ less a b. (prefix_shorter xs ys log b a (omega arith), prefix_self ys)) (λ more a b. (prefix_self xs, prefix_shorter ys xs log b a more))

pub or_keeps : {A : Type 0} (a b c : Option A) → KeepsMark a c → KeepsMark b c → KeepsMark (or_mark a b) c
or_keeps None b c p q = q
or_keeps (Some x) b c p q = p

pub first_keeps : {A : Type 0} (f a b : Option A) → KeepsMark f a → KeepsMark f (or_mark a b)
first_keeps None a b p = tt
first_keeps {A = A} (Some k) a b p = subst (λ (z : Option A). or_mark z b ≡ Some k) (sym p) refl

-- two marks of one value are both the first of the two
pub or_both : {A : Type 0} (a b c : Option A) → KeepsMark (or_mark a b) c → KeepsMark (or_mark b a) c → KeepsMark a (or_mark a b) × KeepsMark b (or_mark a b)
or_both None None c p q = (tt, tt)
or_both None (Some y) c p q = (tt, refl)
or_both (Some x) None c p q = (refl, tt)
or_both (Some x) (Some y) c p q = (refl, sym p ∙ q)

pub or_some : {A : Type 0} (a b : Option A) → (is_some a ≡ true) ⊎ (is_some b ≡ true) → is_some (or_mark a b) ≡ true
or_some (Some x) b h = refl
or_some None b h = ⊎_elim (λ e. absurd (cc (e))) (λ e. e) h

module _ {E B : Type 0} where
  pub joined : (v w : Known E B) → Learned (both v w) → Joined v w
  joined v w l = record {
    few = l.few;
    lists = longer_both v.list w.list l.lists.0 l.lists.1 l.lists.2;
    marks = or_both v.mark w.mark l.marks.0 l.marks.1 l.marks.2;
    alone = l.alone;
  }

module _ {T E B : Type 0} (seats turn waits : ℕ) (homes : Homes T) (views views' : List (Known E B)) (r : Numbered seats turn waits homes views) where
  pub retold_numbers : ((n : ℕ) → sum_by (has n) views' ≡ sum_by (has n) views) → sum_by busy_of views' ≡ sum_by busy_of views → sum_by carries_of views' ≡ sum_by carries_of views → sum_by parts_of views' ≡ sum_by parts_of views
      → ((j : ℕ) (u : Known E B) → get_elem? views' j ≡ maybe.some u → (u.stage ≡ Idle) ⊎ (get_elem? views j ≡ maybe.some u)) → Numbered seats turn waits homes views'
  retold_numbers numbers busy_same carries_same parts_same each = record {
    below = λ n lt. numbers n ∙ r.below n lt;
    within = λ n le lt. numbers n ∙ r.within n le lt;
    above = λ n le. numbers n ∙ r.above n le;
    waiting = busy_same ∙ r.waiting;
    shared = parts_same ∙ r.shared;
    few = r.few;
    served = λ j u e. ⊎_elim (λ i. subst (λ (s : Stage). Served turn u.number s) (sym i) tt) (λ o. r.served j u o) (each j u e);
    resting = λ j u e none. ⊎_elim (λ i. i) (λ o. r.resting j u o none) (each j u e);
    slot = subst (λ (n : ℕ). Lies homes n) (sym carries_same) r.slot;
  }

-- what holds of each view that has a part
pub record Tells {E B : Type 0} (origin : Origin B) (log : List E) (mark : Option ℕ) (u : Known E B) : Type 0 where
  pub origin_is : u.origin ≡ origin
  pub seen : IsPrefix u.list log × KeepsMark u.mark mark
  pub aside : IsPrefix u.beside log × KeepsMark u.beside_mark mark
  pub marked : KeepsMark origin.mark u.mark

module _ {T E B : Type 0} (log_of : T → List E) (mark_of : T → Option ℕ) (base_of : T → B) (origin : Origin B) (log : List E) (mark : Option ℕ) (count : ℕ) (homes : Homes T) (views views' : List (Known E B)) (r : Listed log_of mark_of base_of origin log mark count homes views) where
  pub tells : (j : ℕ) (u : Known E B) → get_elem? views j ≡ maybe.some u → 0 < u.parts → Tells origin log mark u
  tells j u e some = record { origin_is = r.opened j u e some; seen = r.seen j u e some; aside = r.aside j u e some; marked = r.marked j u e some }

  pub retold_lists : ((j : ℕ) (u : Known E B) → get_elem? views' j ≡ maybe.some u → 0 < u.parts → Tells origin log mark u)
      → ((id : ℕ) × (v : Known E B) × (get_elem? views' id ≡ maybe.some v) × (0 < v.parts) × (v.list ≡ log))
      → ((j : ℕ) (u : Known E B) → get_elem? views' j ≡ maybe.some u → (u.stage ≡ Idle) ⊎ (get_elem? views j ≡ maybe.some u)) → Listed log_of mark_of base_of origin log mark count homes views'
  retold_lists facts newest each = record {
    counted = r.counted;
    short = r.short;
    opened = λ j u e some. (facts j u e some).origin_is;
    seen = λ j u e some. (facts j u e some).seen;
    aside = λ j u e some. (facts j u e some).aside;
    newest = newest;
    marked = λ j u e some. (facts j u e some).marked;
    at_home = r.at_home;
    held = λ j u e inside. ⊎_elim (λ i. absurd (not_inside u.stage (ap carries i) inside)) (λ o. r.held j u o inside) (each j u e);
  }

-- what holds of each view, of its mark and of what it added
pub record Owns {E B : Type 0} (u : Known E B) : Type 0 where
  pub setter : u.set ≡ true → is_some u.mark ≡ true
  pub nothing : u.parts ≡ 0 → (u.own ≡ 0) × (u.set ≡ false)

module _ {E B : Type 0} (origin : Origin B) (log : List E) (mark : Option ℕ) (views views' : List (Known E B)) (r : Summed origin log mark views) where
  pub owns : (j : ℕ) (u : Known E B) → get_elem? views j ≡ maybe.some u → Owns u
  owns j u e = record { setter = r.setter j u e; nothing = r.nothing j u e }

  pub retold_sums : sum_by own_of views' ≡ sum_by own_of views → sum_by set_of views' ≡ sum_by set_of views → ((j : ℕ) (u : Known E B) → get_elem? views' j ≡ maybe.some u → Owns u) → Summed origin log mark views'
  retold_sums own_same set_same each = record {
    added = let a = r.added in omega arith;
    sets = set_same ∙ r.sets;
    setter = λ j u e. (each j u e).setter;
    nothing = λ j u e. (each j u e).nothing;
  }
