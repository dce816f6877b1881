use Rattle.osl_grouptext.proofs.Pairs.{layer_is_name, param_is_name}
use Rattle.osl_grouptext.proofs.statement.pair_texts.Goals as goal

pub text_of-requires : goal.text_of-requires
text_of-requires c = layer_is_name c.args.word.now (record { layer = c.in-Some.layer.now; param = c.in-Some.param.now }) c.in-Some.ensures

pub text_of-requires-in-Some : goal.text_of-requires-in-Some
text_of-requires-in-Some c = param_is_name c.args.word.now (record { layer = c.in-Some.layer.now; param = c.in-Some.param.now }) c.in-Some.ensures
