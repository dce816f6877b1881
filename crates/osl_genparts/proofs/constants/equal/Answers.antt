use Rattle.std.proofs.Common.{◌≡◌, sym, ◌∙◌, rules}
use Rattle.osl_value.specs.Plain.{Plain}
use Rattle.osl_genparts.proofs.constants.equal.Goals as goal

same_parts : (a b : Plain) → a.ty ≡ b.ty → a.nums ≡ b.nums → a.texts ≡ b.texts → a ≡ b
same_parts a b tys nums texts = λ i. record { ty = tys i; nums = nums i; texts = texts i }

pub returns : goal.returns
returns c = λ h. same_parts _ _ (search rules) (sym c.nums.ensures ∙ c.equal_numbers.ensures c.if-not-equal_numbers.false ∙ c.nums-2.ensures) (sym c.texts.ensures ∙ c.equal_texts.ensures h ∙ c.texts-2.ensures)
