-- What valid code has: data whose numbers are their types', and sections that lie in its ops.
use Rattle.std.proofs.Common.{◌≡◌, ℕ, Bool, true, false, ◌&&◌, cond, List, [], ◌∷◌, ◌++◌, length, get_or, ℤ, pos, negsuc, All, refl, rules, tests}
use Rattle.std.specs.Prelude.{FitsSigned, nat_le}
use Rattle.std.specs.Int.{w32}
use Rattle.std.specs.List.{list_all, AllByRecursion}
use Rattle.std.proofs.lemmas.Int.{ints}
use Rattle.std.proofs.lemmas.List.Elements.{All-from_recursion}
use Rattle.std.proofs.lemmas.Option.{slice_get-get_or}
use Rattle.osl_value.specs.declared.types.Base.{Base}
use Rattle.osl_value.specs.declared.types.Base.TheVariants.{Int, Float, Color, Point, Vector, Normal, Matrix, Str, Closure}
use Rattle.osl_value.specs.Numbers.{IsInRange}
use Rattle.osl_value.specs.Plain.{IsNumberOf}
use Rattle.oso_code.specs.declared.op.Section.{Section}
use Rattle.oso_code.specs.declared.raw.Raw.{Raw}
use Rattle.oso_code.specs.declared.symbol.Meta.{Meta}
use Rattle.oso_code.specs.declared.symbol.Symbol.{Symbol}
use Rattle.oso_code.specs.Faults.{unless}
use Rattle.oso_code.specs.Holding.{fits_int, fits_float, fits_base}
use Rattle.oso_code.specs.Sections.{owner_fits, section_fits, follows, later_faults, section_faults}
use Rattle.oso_code.specs.Symbols.{datum_fits, is_empty, is_parameter, symbol_at_fits}
use Rattle.oso_code.specs.Valid.{IsValid}
use Rattle.oso_write.specs.Fits.{IsDatum, HasData, IsInside}

left : (a b : Bool) → (a && b) ≡ true → a ≡ true
left true b h = refl
left false b h = absurd cc

right : (a b : Bool) → (a && b) ≡ true → b ≡ true
right true b h = h
right false b h = absurd cc

-- ---- numbers and data

int_fits : (n : ℤ) → fits_int n ≡ true → FitsSigned w32 n
int_fits (pos n) h = search (rules, tests, ints)
int_fits (negsuc n) h = search (rules, tests, ints)

float_fits : (n : ℤ) → fits_float n ≡ true → IsInRange n
float_fits n h = search (rules, tests)

number_fits : (base : Base) (n : ℤ) → fits_base base n ≡ true → IsNumberOf base n
number_fits Int n h = int_fits n h
number_fits Float n h = float_fits n h
number_fits Color n h = float_fits n h
number_fits Point n h = float_fits n h
number_fits Vector n h = float_fits n h
number_fits Normal n h = float_fits n h
number_fits Matrix n h = float_fits n h
number_fits Str n h = float_fits n h
number_fits Closure n h = float_fits n h

pub numbers_fit : (base : Base) (nums : List ℤ) → list_all (fits_base base) nums ≡ true → AllByRecursion (IsNumberOf base) nums
numbers_fit base [] h = tt
numbers_fit base (n ∷ nums) h =
    (number_fits base n (left (fits_base base n) (list_all (fits_base base) nums) h), numbers_fit base nums (right (fits_base base n) (list_all (fits_base base) nums) h))

datum : (m : Meta) → datum_fits m ≡ true → IsDatum m
datum m h = All-from_recursion (IsNumberOf m.ty.base) m.nums (numbers_fit m.ty.base m.nums (right _ _ (right _ _ h)))

data_fit : (metas : List Meta) → list_all datum_fits metas ≡ true → AllByRecursion IsDatum metas
data_fit [] h = tt
data_fit (m ∷ metas) h = (datum m (left (datum_fits m) (list_all datum_fits metas) h), data_fit metas (right (datum_fits m) (list_all datum_fits metas) h))

pub all_data : (metas : List Meta) → list_all datum_fits metas ≡ true → All IsDatum metas
all_data metas h = All-from_recursion IsDatum metas (data_fit metas h)

nothing : (metas : List Meta) → is_empty metas ≡ true → list_all datum_fits metas ≡ true
nothing [] h = refl
nothing (m ∷ metas) h = absurd cc

metadata : (parameter : Bool) (metas : List Meta) → cond parameter (list_all datum_fits metas) (is_empty metas) ≡ true → list_all datum_fits metas ≡ true
metadata true metas h = h
metadata false metas h = nothing metas h

symbol_data : (symbols : List Symbol) (k : ℕ) (s : Symbol) → symbol_at_fits symbols k s ≡ true → HasData s
symbol_data symbols k s h = all_data s.metas (metadata (is_parameter s.class) s.metas (right _ _ (right _ _ (left _ _ h))))

pub header_data : (raw : Raw) → IsValid raw → All IsDatum raw.metas
header_data raw valid = all_data raw.metas (right _ _ valid.header)

pub symbols_data : (raw : Raw) → IsValid raw → All HasData raw.symbols
symbols_data raw valid = λ k d below. symbol_data raw.symbols k (get_or raw.symbols k d) (valid.symbols k (get_or raw.symbols k d) (slice_get-get_or raw.symbols k d below))

-- ---- sections

first_nil : (xs ys : List ℕ) → xs ++ ys ≡ [] → xs ≡ []
first_nil [] ys h = refl
first_nil (x ∷ xs) ys h = absurd cc

second_nil : (xs ys : List ℕ) → xs ++ ys ≡ [] → ys ≡ []
second_nil [] ys h = h
second_nil (x ∷ xs) ys h = absurd cc

holds : (b : Bool) (at : ℕ) → unless b at ≡ [] → b ≡ true
holds true at h = refl
holds false at h = absurd cc

inside : (raw : Raw) (s : Section) → section_fits raw s ≡ true → IsInside raw.ops s
inside raw s h =
    let is_ordered = nat_le s.start s.end in
    let is_within = nat_le s.end (length raw.ops) in
    let lies : (is_ordered && is_within) ≡ true = right (owner_fits raw.symbols s.param) (is_ordered && is_within) h in
    let ordered : nat_le s.start s.end ≡ true = left is_ordered is_within lies in
    let within : nat_le s.end (length raw.ops) ≡ true = right is_ordered is_within lies in
    record { ordered = search (rules, tests); within = search (rules, tests) }

later_inside : (raw : Raw) (before : Section) (sections : List Section) → later_faults raw before sections ≡ [] → AllByRecursion (IsInside raw.ops) sections
later_inside raw before [] h = tt
later_inside raw before (s ∷ sections) h =
    let fits = holds (follows before s && section_fits raw s) s.start (first_nil _ _ h) in
    (inside raw s (right _ _ fits), later_inside raw s sections (second_nil _ _ h))

inside_by : (raw : Raw) (sections : List Section) → section_faults raw sections ≡ [] → AllByRecursion (IsInside raw.ops) sections
inside_by raw [] h = tt
inside_by raw (s ∷ sections) h =
    let fits = holds _ s.start (first_nil _ _ h) in
    (inside raw s (right _ _ fits), later_inside raw s sections (first_nil _ _ (second_nil _ _ h)))

pub all_inside : (raw : Raw) → IsValid raw → All (IsInside raw.ops) raw.sections
all_inside raw valid = All-from_recursion (IsInside raw.ops) raw.sections (inside_by raw raw.sections valid.sections)
