-- The laws of the nodes, and how weights are put together.
use Rattle.osl_typed.proofs.WeightLaws.{weight-Int, weight-Float, weight-Text, weight-Variable, weight-PartOf, weight-Paren, weight-Promote, weight-Apply, weight-And, weight-Or, weight-Choose, weight-Assign, weight-Update, weight-Step, weight-Call, weight-Exit, weight-In, weight-Out, done-Empty, done-Block, done-Declare, done-Expr, done-Break, done-Continue, done-Return, done-If, done-If-Else, done-While, done-DoWhile, done-For}
use Rattle.osl_typed.proofs.Weights.{cut_left, cut_right}

pub ruleset arms = (weight-Int, weight-Float, weight-Text, weight-Variable, weight-PartOf, weight-Paren, weight-Promote, weight-Apply, weight-And, weight-Or, weight-Choose, weight-Assign, weight-Update, weight-Step, weight-Call, weight-Exit, weight-In, weight-Out, cut_left, cut_right)

pub ruleset done_arms = (done-Empty, done-Block, done-Declare, done-Expr, done-Break, done-Continue, done-Return, done-If, done-If-Else, done-While, done-DoWhile, done-For, cut_left, cut_right)
