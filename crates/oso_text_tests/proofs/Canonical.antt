-- Texts that are read, each with the canonical text of what is read.
use Rattle.std.proofs.Common.{◌≡◌, refl}
use Rattle.std.specs.Fmt.{digits}
use Rattle.std.specs.Int.{int_wrap}
use Rattle.std.specs.Prelude.{[], ◌∷◌, ◌++◌, codes, replicate, None, Some}
use Rattle.osl_value.specs.Apply.{is_allowed}
use Rattle.osl_decimal.specs.Canonical.{fraction_text, magnitude_text}
use Rattle.osl_decimal.specs.Decimal.{int_of, fx_of, is_decimal, decimal_units, numerator, denominator, raising, lowering, mantissa, whole, decimals, exponent, exponent_digits}
use Rattle.osl_valuetext.specs.Literals.{value_at, numbers_at, strings_at, text_at, string_at, values_at, decimal_at, fx_at, int_at}
use Rattle.osl_valuetext.specs.Splitting.{words}
use Rattle.osl_valuetext.specs.Types.{type_at, length_at}
use Rattle.oso_code.specs.Steps.{step_of}
use Rattle.oso_write.specs.Canon.{canon}
use Rattle.oso_read.specs.Data.{datum_of, meta_at, meta_type_at}
use Rattle.oso_read.specs.Faults.{fault}
use Rattle.oso_read.specs.Hints.{saying, is_hint}
use Rattle.oso_read.specs.OpLine.{code_at, is_end, op_at, op_words}
use Rattle.oso_read.specs.Reading as r
use Rattle.oso_read.specs.Reading.{reading}
use Rattle.oso_read.specs.SymbolLine.{head_at, head_words, symbol_at, symbol_words, class_at, typed_words, metas_at, named_at, start_at}
use Rattle.oso_read.specs.Text.{told_from}
use Rattle.oso_read.specs.declared.error.OsoKind.TheVariants as kinds
use Rattle.oso_text_tests.proofs.Words.{after, found, written}

-- ---- canonical texts, written back as they are

canonical_0 : written (reading (codes "OpenShadingLanguage 1.00\nshader plain\noparam float r 7\ncode ___main___\nend\n"))
    ≡ Some (codes "OpenShadingLanguage 1.00\nshader plain\noparam float r 7\ncode ___main___\nend\n")
unfolding canon reading r.opened r.headed r.named_from r.declared_from r.symbol_added r.filled_from r.code_read r.op_read r.op_named r.op_of r.range_fault r.closed r.ended told_from words saying is_hint head_at head_words symbol_at symbol_words class_at typed_words metas_at named_at start_at meta_at meta_type_at datum_of op_at op_words code_at is_end type_at length_at value_at numbers_at strings_at text_at string_at values_at decimal_at fx_at int_at int_of fx_of is_decimal decimal_units numerator denominator raising lowering mantissa whole decimals exponent exponent_digits fraction_text magnitude_text digits int_wrap step_of is_allowed
canonical_0 = refl

canonical_1 : written (reading (codes "OpenShadingLanguage 1.00\nshader consts\nconst int a -2147483648\nconst float b -9223372036.854775807\nconst color c 0 0.5 1\nconst point d 1 2 3\nconst vector e -1 0 1\nconst normal f 0 0 -1\nconst matrix g 1 2 3 4 5 6 7 8 9 10 11 12 13 14 15 16\nconst string h \"\\\"\\\\\\n\\t\\r\\001\\377 ~\"\nconst int[2] i 0 2147483647\nconst float[1] j 0.000000001\nconst color[2] k 1 2 3 4 5 6\nconst point[1] l 1 2 3\nconst vector[1] m 4 5 6\nconst normal[1] n 7 8 9\nconst matrix[1] o 1 2 3 4 5 6 7 8 9 10 11 12 13 14 15 16\nconst string[3] p \"\" \"a, b\" \"%x{}\"\ncode ___main___\nend\n"))
    ≡ Some (codes "OpenShadingLanguage 1.00\nshader consts\nconst int a -2147483648\nconst float b -9223372036.854775807\nconst color c 0 0.5 1\nconst point d 1 2 3\nconst vector e -1 0 1\nconst normal f 0 0 -1\nconst matrix g 1 2 3 4 5 6 7 8 9 10 11 12 13 14 15 16\nconst string h \"\\\"\\\\\\n\\t\\r\\001\\377 ~\"\nconst int[2] i 0 2147483647\nconst float[1] j 0.000000001\nconst color[2] k 1 2 3 4 5 6\nconst point[1] l 1 2 3\nconst vector[1] m 4 5 6\nconst normal[1] n 7 8 9\nconst matrix[1] o 1 2 3 4 5 6 7 8 9 10 11 12 13 14 15 16\nconst string[3] p \"\" \"a, b\" \"%x{}\"\ncode ___main___\nend\n")
unfolding canon reading r.opened r.headed r.named_from r.declared_from r.symbol_added r.filled_from r.code_read r.op_read r.op_named r.op_of r.range_fault r.closed r.ended told_from words saying is_hint head_at head_words symbol_at symbol_words class_at typed_words metas_at named_at start_at meta_at meta_type_at datum_of op_at op_words code_at is_end type_at length_at value_at numbers_at strings_at text_at string_at values_at decimal_at fx_at int_at int_of fx_of is_decimal decimal_units numerator denominator raising lowering mantissa whole decimals exponent exponent_digits fraction_text magnitude_text digits int_wrap step_of is_allowed
canonical_1 = refl

canonical_2 : written (reading (codes "OpenShadingLanguage 1.00\ndisplacement d %meta{int,i,-1} %meta{float[2],f,0.5,-3} %meta{string,t,\"a,}\\\"\\\\\\n\\t\\r\\001\\377\"} %meta{closure color,c}\nparam string $a.b \"\" %meta{int,lockgeom,0}\noparam int[3] _x 1 -2 2147483647\nparam closure color k\nglobal point P\nglobal closure color Ci\nconst string c1 \"a b\\001\\\"\"\nconst matrix c2 1 2 3 4 5 6 7 8 9 10 11 12 13 14 15 0.000000001\nlocal color x\ntemp closure color y\ncode ___main___\nend\n"))
    ≡ Some (codes "OpenShadingLanguage 1.00\ndisplacement d %meta{int,i,-1} %meta{float[2],f,0.5,-3} %meta{string,t,\"a,}\\\"\\\\\\n\\t\\r\\001\\377\"} %meta{closure color,c}\nparam string $a.b \"\" %meta{int,lockgeom,0}\noparam int[3] _x 1 -2 2147483647\nparam closure color k\nglobal point P\nglobal closure color Ci\nconst string c1 \"a b\\001\\\"\"\nconst matrix c2 1 2 3 4 5 6 7 8 9 10 11 12 13 14 15 0.000000001\nlocal color x\ntemp closure color y\ncode ___main___\nend\n")
unfolding canon reading r.opened r.headed r.named_from r.declared_from r.symbol_added r.filled_from r.code_read r.op_read r.op_named r.op_of r.range_fault r.closed r.ended told_from words saying is_hint head_at head_words symbol_at symbol_words class_at typed_words metas_at named_at start_at meta_at meta_type_at datum_of op_at op_words code_at is_end type_at length_at value_at numbers_at strings_at text_at string_at values_at decimal_at fx_at int_at int_of fx_of is_decimal decimal_units numerator denominator raising lowering mantissa whole decimals exponent exponent_digits fraction_text magnitude_text digits int_wrap step_of is_allowed
canonical_2 = refl

canonical_3 : written (reading (after (codes "param float a 0\nparam float b 0\nconst float c 1\nconst int i 1\nlocal int j\ncode a\nassign a c\ncode b\nassign b a\ncode ___main___\nfor i 3 4 5\nassign j i\nadd j j i\nend\n")))
    ≡ Some (after (codes "param float a 0\nparam float b 0\nconst float c 1\nconst int i 1\nlocal int j\ncode a\nassign a c\ncode b\nassign b a\ncode ___main___\nfor i 3 4 5\nassign j i\nadd j j i\nend\n"))
unfolding canon reading r.opened r.headed r.named_from r.declared_from r.symbol_added r.filled_from r.code_read r.op_read r.op_named r.op_of r.range_fault r.closed r.ended told_from words saying is_hint head_at head_words symbol_at symbol_words class_at typed_words metas_at named_at start_at meta_at meta_type_at datum_of op_at op_words code_at is_end type_at length_at value_at numbers_at strings_at text_at string_at values_at decimal_at fx_at int_at int_of fx_of is_decimal decimal_units numerator denominator raising lowering mantissa whole decimals exponent exponent_digits fraction_text magnitude_text digits int_wrap step_of is_allowed
canonical_3 = refl

canonical_4 : written (reading (after (codes "const string a \"\\177\\000\"\ncode ___main___\nend\n")))
    ≡ Some (after (codes "const string a \"\\177\\000\"\ncode ___main___\nend\n"))
unfolding canon reading r.opened r.headed r.named_from r.declared_from r.symbol_added r.filled_from r.code_read r.op_read r.op_named r.op_of r.range_fault r.closed r.ended told_from words saying is_hint head_at head_words symbol_at symbol_words class_at typed_words metas_at named_at start_at meta_at meta_type_at datum_of op_at op_words code_at is_end type_at length_at value_at numbers_at strings_at text_at string_at values_at decimal_at fx_at int_at int_of fx_of is_decimal decimal_units numerator denominator raising lowering mantissa whole decimals exponent exponent_digits fraction_text magnitude_text digits int_wrap step_of is_allowed
canonical_4 = refl

canonical_5 : written (reading (codes "OpenShadingLanguage 1.00\ndisplacement d\nparam string $a.b \"\"\noparam int[3] _x 1 -2 2147483647\nparam closure color k\nglobal point P\nglobal normal N\nglobal normal Ng\nglobal vector I\nglobal float u\nglobal float v\nglobal closure color Ci\nconst string c1 \"a b\"\nconst matrix c2 1 2 3 4 5 6 7 8 9 10 11 12 13 14 15 16\nlocal color x\ntemp closure color y\ncode ___main___\nend\n"))
    ≡ Some (codes "OpenShadingLanguage 1.00\ndisplacement d\nparam string $a.b \"\"\noparam int[3] _x 1 -2 2147483647\nparam closure color k\nglobal point P\nglobal normal N\nglobal normal Ng\nglobal vector I\nglobal float u\nglobal float v\nglobal closure color Ci\nconst string c1 \"a b\"\nconst matrix c2 1 2 3 4 5 6 7 8 9 10 11 12 13 14 15 16\nlocal color x\ntemp closure color y\ncode ___main___\nend\n")
unfolding canon reading r.opened r.headed r.named_from r.declared_from r.symbol_added r.filled_from r.code_read r.op_read r.op_named r.op_of r.range_fault r.closed r.ended told_from words saying is_hint head_at head_words symbol_at symbol_words class_at typed_words metas_at named_at start_at meta_at meta_type_at datum_of op_at op_words code_at is_end type_at length_at value_at numbers_at strings_at text_at string_at values_at decimal_at fx_at int_at int_of fx_of is_decimal decimal_units numerator denominator raising lowering mantissa whole decimals exponent exponent_digits fraction_text magnitude_text digits int_wrap step_of is_allowed
canonical_5 = refl

canonical_6 : written (reading (after (codes "param float a 0\nparam float b 0\nconst float c 1\ncode a\nassign a c\ncode b\nassign b a\ncode ___main___\nend\n")))
    ≡ Some (after (codes "param float a 0\nparam float b 0\nconst float c 1\ncode a\nassign a c\ncode b\nassign b a\ncode ___main___\nend\n"))
unfolding canon reading r.opened r.headed r.named_from r.declared_from r.symbol_added r.filled_from r.code_read r.op_read r.op_named r.op_of r.range_fault r.closed r.ended told_from words saying is_hint head_at head_words symbol_at symbol_words class_at typed_words metas_at named_at start_at meta_at meta_type_at datum_of op_at op_words code_at is_end type_at length_at value_at numbers_at strings_at text_at string_at values_at decimal_at fx_at int_at int_of fx_of is_decimal decimal_units numerator denominator raising lowering mantissa whole decimals exponent exponent_digits fraction_text magnitude_text digits int_wrap step_of is_allowed
canonical_6 = refl

canonical_7 : written (reading (after (codes "param float a 0\noparam float b 0\ncode b\ncode ___main___\nassign b a\nend\n")))
    ≡ Some (after (codes "param float a 0\noparam float b 0\ncode b\ncode ___main___\nassign b a\nend\n"))
unfolding canon reading r.opened r.headed r.named_from r.declared_from r.symbol_added r.filled_from r.code_read r.op_read r.op_named r.op_of r.range_fault r.closed r.ended told_from words saying is_hint head_at head_words symbol_at symbol_words class_at typed_words metas_at named_at start_at meta_at meta_type_at datum_of op_at op_words code_at is_end type_at length_at value_at numbers_at strings_at text_at string_at values_at decimal_at fx_at int_at int_of fx_of is_decimal decimal_units numerator denominator raising lowering mantissa whole decimals exponent exponent_digits fraction_text magnitude_text digits int_wrap step_of is_allowed
canonical_7 = refl

canonical_8 : written (reading (after (codes "const int c 1\ncode ___main___\nif c 2 3\nreturn\nexit\nend\n")))
    ≡ Some (after (codes "const int c 1\ncode ___main___\nif c 2 3\nreturn\nexit\nend\n"))
unfolding canon reading r.opened r.headed r.named_from r.declared_from r.symbol_added r.filled_from r.code_read r.op_read r.op_named r.op_of r.range_fault r.closed r.ended told_from words saying is_hint head_at head_words symbol_at symbol_words class_at typed_words metas_at named_at start_at meta_at meta_type_at datum_of op_at op_words code_at is_end type_at length_at value_at numbers_at strings_at text_at string_at values_at decimal_at fx_at int_at int_of fx_of is_decimal decimal_units numerator denominator raising lowering mantissa whole decimals exponent exponent_digits fraction_text magnitude_text digits int_wrap step_of is_allowed
canonical_8 = refl

canonical_9 : written (reading (after (codes "const int c 1\ncode ___main___\nwhile c 1 3\nif c 2 3\nbreak\nend\n")))
    ≡ Some (after (codes "const int c 1\ncode ___main___\nwhile c 1 3\nif c 2 3\nbreak\nend\n"))
unfolding canon reading r.opened r.headed r.named_from r.declared_from r.symbol_added r.filled_from r.code_read r.op_read r.op_named r.op_of r.range_fault r.closed r.ended told_from words saying is_hint head_at head_words symbol_at symbol_words class_at typed_words metas_at named_at start_at meta_at meta_type_at datum_of op_at op_words code_at is_end type_at length_at value_at numbers_at strings_at text_at string_at values_at decimal_at fx_at int_at int_of fx_of is_decimal decimal_units numerator denominator raising lowering mantissa whole decimals exponent exponent_digits fraction_text magnitude_text digits int_wrap step_of is_allowed
canonical_9 = refl

canonical_10 : written (reading (after (codes "const int c 1\nlocal int i\ncode ___main___\nfor c 2 3 4\nassign i c\ncontinue\nadd i i c\nend\n")))
    ≡ Some (after (codes "const int c 1\nlocal int i\ncode ___main___\nfor c 2 3 4\nassign i c\ncontinue\nadd i i c\nend\n"))
unfolding canon reading r.opened r.headed r.named_from r.declared_from r.symbol_added r.filled_from r.code_read r.op_read r.op_named r.op_of r.range_fault r.closed r.ended told_from words saying is_hint head_at head_words symbol_at symbol_words class_at typed_words metas_at named_at start_at meta_at meta_type_at datum_of op_at op_words code_at is_end type_at length_at value_at numbers_at strings_at text_at string_at values_at decimal_at fx_at int_at int_of fx_of is_decimal decimal_units numerator denominator raising lowering mantissa whole decimals exponent exponent_digits fraction_text magnitude_text digits int_wrap step_of is_allowed
canonical_10 = refl

canonical_11 : written (reading (after (codes "const int c 1\ncode ___main___\ndowhile c 3 3\nfunctioncall 3\nreturn\nend\n")))
    ≡ Some (after (codes "const int c 1\ncode ___main___\ndowhile c 3 3\nfunctioncall 3\nreturn\nend\n"))
unfolding canon reading r.opened r.headed r.named_from r.declared_from r.symbol_added r.filled_from r.code_read r.op_read r.op_named r.op_of r.range_fault r.closed r.ended told_from words saying is_hint head_at head_words symbol_at symbol_words class_at typed_words metas_at named_at start_at meta_at meta_type_at datum_of op_at op_words code_at is_end type_at length_at value_at numbers_at strings_at text_at string_at values_at decimal_at fx_at int_at int_of fx_of is_decimal decimal_units numerator denominator raising lowering mantissa whole decimals exponent exponent_digits fraction_text magnitude_text digits int_wrap step_of is_allowed
canonical_11 = refl

canonical_12 : written (reading (after (codes "const int c 1\ncode ___main___\nwhile c 1 1\nend\n")))
    ≡ Some (after (codes "const int c 1\ncode ___main___\nwhile c 1 1\nend\n"))
unfolding canon reading r.opened r.headed r.named_from r.declared_from r.symbol_added r.filled_from r.code_read r.op_read r.op_named r.op_of r.range_fault r.closed r.ended told_from words saying is_hint head_at head_words symbol_at symbol_words class_at typed_words metas_at named_at start_at meta_at meta_type_at datum_of op_at op_words code_at is_end type_at length_at value_at numbers_at strings_at text_at string_at values_at decimal_at fx_at int_at int_of fx_of is_decimal decimal_units numerator denominator raising lowering mantissa whole decimals exponent exponent_digits fraction_text magnitude_text digits int_wrap step_of is_allowed
canonical_12 = refl

canonical_13 : written (reading (codes "OpenShadingLanguage 1.00\nsurface s\nglobal closure color Ci\nglobal normal N\ncode ___main___\ncl_diffuse Ci N\nend\n"))
    ≡ Some (codes "OpenShadingLanguage 1.00\nsurface s\nglobal closure color Ci\nglobal normal N\ncode ___main___\ncl_diffuse Ci N\nend\n")
unfolding canon reading r.opened r.headed r.named_from r.declared_from r.symbol_added r.filled_from r.code_read r.op_read r.op_named r.op_of r.range_fault r.closed r.ended told_from words saying is_hint head_at head_words symbol_at symbol_words class_at typed_words metas_at named_at start_at meta_at meta_type_at datum_of op_at op_words code_at is_end type_at length_at value_at numbers_at strings_at text_at string_at values_at decimal_at fx_at int_at int_of fx_of is_decimal decimal_units numerator denominator raising lowering mantissa whole decimals exponent exponent_digits fraction_text magnitude_text digits int_wrap step_of is_allowed
canonical_13 = refl

-- ---- every operation

every_operation : written (reading (codes "OpenShadingLanguage 1.00\nsurface every\nconst int one 1\nlocal int i\nlocal float f\nlocal color c\nlocal point p\nlocal vector w\nlocal normal n\nlocal matrix m\nlocal string s\ntemp float[3] fs\ntemp closure color e\ncode ___main___\nassign f f\nempty e\ntoint i f\nadd f f f\nsub f f f\nmul f f f\ndiv f f f\nirem i i i\nneg f f\ncompl i i\nbitand i i i\nbitor i i i\nxor i i i\nshl i i i\nshr i i i\nnot i i\neq i f f\nneq i f f\nlt i f f\ngt i f f\nle i f f\nge i f f\naref f fs i\naassign fs i f\narraylength i fs\ncompref f c i\ncompassign c i f\nmxcompref f m i i\nmxcompassign m i i f\ntriple c f f f\nmatrix m f\nabs f f\nsign f f\nfloor f f\nceil f f\nround f f\ntrunc f f\nsqrt f f\ninversesqrt f f\nmin f f f\nmax f f f\nfmod f f f\nmod f f f\nstep f f f\nclamp f f f f\nmix f f f f\nsmoothstep f f f f\ndot f p w\ncross w p w\nlength f w\ndistance f p p\nnormalize n n\ntranspose m m\ntransform p m p\nconcat s s s\nstrlen i s\nstartswith i s s\nendswith i s s\nsubstr s s i i\ngetchar i s i\ncl_emission e\ncl_background e\ncl_holdout e\ncl_transparent e\ncl_diffuse e n\ncl_translucent e n\ncl_oren_nayar e n f\ncl_reflection e n f\ncl_refraction e n f\ncl_debug e s\nif one 78 79\nfor one 72 78 78\nwhile one 73 78\ndowhile one 78 78\nfunctioncall 75\nbreak\ncontinue\nreturn\nexit\nend\n"))
    ≡ Some (codes "OpenShadingLanguage 1.00\nsurface every\nconst int one 1\nlocal int i\nlocal float f\nlocal color c\nlocal point p\nlocal vector w\nlocal normal n\nlocal matrix m\nlocal string s\ntemp float[3] fs\ntemp closure color e\ncode ___main___\nassign f f\nempty e\ntoint i f\nadd f f f\nsub f f f\nmul f f f\ndiv f f f\nirem i i i\nneg f f\ncompl i i\nbitand i i i\nbitor i i i\nxor i i i\nshl i i i\nshr i i i\nnot i i\neq i f f\nneq i f f\nlt i f f\ngt i f f\nle i f f\nge i f f\naref f fs i\naassign fs i f\narraylength i fs\ncompref f c i\ncompassign c i f\nmxcompref f m i i\nmxcompassign m i i f\ntriple c f f f\nmatrix m f\nabs f f\nsign f f\nfloor f f\nceil f f\nround f f\ntrunc f f\nsqrt f f\ninversesqrt f f\nmin f f f\nmax f f f\nfmod f f f\nmod f f f\nstep f f f\nclamp f f f f\nmix f f f f\nsmoothstep f f f f\ndot f p w\ncross w p w\nlength f w\ndistance f p p\nnormalize n n\ntranspose m m\ntransform p m p\nconcat s s s\nstrlen i s\nstartswith i s s\nendswith i s s\nsubstr s s i i\ngetchar i s i\ncl_emission e\ncl_background e\ncl_holdout e\ncl_transparent e\ncl_diffuse e n\ncl_translucent e n\ncl_oren_nayar e n f\ncl_reflection e n f\ncl_refraction e n f\ncl_debug e s\nif one 78 79\nfor one 72 78 78\nwhile one 73 78\ndowhile one 78 78\nfunctioncall 75\nbreak\ncontinue\nreturn\nexit\nend\n")
unfolding canon reading r.opened r.headed r.named_from r.declared_from r.symbol_added r.filled_from r.code_read r.op_read r.op_named r.op_of r.range_fault r.closed r.ended told_from words saying is_hint head_at head_words symbol_at symbol_words class_at typed_words metas_at named_at start_at meta_at meta_type_at datum_of op_at op_words code_at is_end type_at length_at value_at numbers_at strings_at text_at string_at values_at decimal_at fx_at int_at int_of fx_of is_decimal decimal_units numerator denominator raising lowering mantissa whole decimals exponent exponent_digits fraction_text magnitude_text digits int_wrap step_of is_allowed
every_operation = refl

-- ---- hints, blanks, comments, carriage returns, and no line feed at the end

other_0 : written (reading (codes "OpenShadingLanguage 1.00\nshader plain\noparam float r 7 %foo{1}\ncode ___main___\nend\n"))
    ≡ Some (codes "OpenShadingLanguage 1.00\nshader plain\noparam float r 7\ncode ___main___\nend\n")
unfolding canon reading r.opened r.headed r.named_from r.declared_from r.symbol_added r.filled_from r.code_read r.op_read r.op_named r.op_of r.range_fault r.closed r.ended told_from words saying is_hint head_at head_words symbol_at symbol_words class_at typed_words metas_at named_at start_at meta_at meta_type_at datum_of op_at op_words code_at is_end type_at length_at value_at numbers_at strings_at text_at string_at values_at decimal_at fx_at int_at int_of fx_of is_decimal decimal_units numerator denominator raising lowering mantissa whole decimals exponent exponent_digits fraction_text magnitude_text digits int_wrap step_of is_allowed
other_0 = refl

other_1 : written (reading (codes "\n " ++ (9 ∷ 13 ∷ []) ++ codes "\n# one\nOpenShadingLanguage" ++ (9 ∷ []) ++ codes "1.00 %a{\"}\"} " ++ (13 ∷ []) ++ codes "\n  # two\nshader  plain" ++ (9 ∷ 13 ∷ []) ++ codes "\n" ++ (9 ∷ []) ++ codes "oparam float r 7\ncode ___main___ %b{ x }\nend %c{}\n# three"))
    ≡ Some (codes "OpenShadingLanguage 1.00\nshader plain\noparam float r 7\ncode ___main___\nend\n")
unfolding canon reading r.opened r.headed r.named_from r.declared_from r.symbol_added r.filled_from r.code_read r.op_read r.op_named r.op_of r.range_fault r.closed r.ended told_from words saying is_hint head_at head_words symbol_at symbol_words class_at typed_words metas_at named_at start_at meta_at meta_type_at datum_of op_at op_words code_at is_end type_at length_at value_at numbers_at strings_at text_at string_at values_at decimal_at fx_at int_at int_of fx_of is_decimal decimal_units numerator denominator raising lowering mantissa whole decimals exponent exponent_digits fraction_text magnitude_text digits int_wrap step_of is_allowed
other_1 = refl

other_2 : written (reading (codes "OpenShadingLanguage 1.00 %a{}\nshader s %b{1} %meta{int,i,1} %b{2}\nparam float p 0 %c{x y}\noparam float o 0 %meta{int,j,2} %c{}\nglobal point P %d{,}\nconst int k 1 %d{}\nlocal float l %d{} %e{}\ntemp float t %d{\"}\"}\ncode p %f{}\nassign p p %g{\"\\\"}\"}\ncode ___main___ %h{}\nif k 2 2 %i{}\nend %j{}\n"))
    ≡ Some (codes "OpenShadingLanguage 1.00\nshader s %meta{int,i,1}\nparam float p 0\noparam float o 0 %meta{int,j,2}\nglobal point P\nconst int k 1\nlocal float l\ntemp float t\ncode p\nassign p p\ncode ___main___\nif k 2 2\nend\n")
unfolding canon reading r.opened r.headed r.named_from r.declared_from r.symbol_added r.filled_from r.code_read r.op_read r.op_named r.op_of r.range_fault r.closed r.ended told_from words saying is_hint head_at head_words symbol_at symbol_words class_at typed_words metas_at named_at start_at meta_at meta_type_at datum_of op_at op_words code_at is_end type_at length_at value_at numbers_at strings_at text_at string_at values_at decimal_at fx_at int_at int_of fx_of is_decimal decimal_units numerator denominator raising lowering mantissa whole decimals exponent exponent_digits fraction_text magnitude_text digits int_wrap step_of is_allowed
other_2 = refl

-- ---- lengths of names and strings

name_of_255 : found (reading (after (codes "local int " ++ replicate 255 120 ++ codes "\ncode ___main___\nend\n"))) ≡ None
unfolding reading r.opened r.headed r.named_from r.declared_from r.symbol_added r.filled_from r.code_read r.op_read r.op_named r.op_of r.range_fault r.closed r.ended told_from words saying is_hint head_at head_words symbol_at symbol_words class_at typed_words metas_at named_at start_at meta_at meta_type_at datum_of op_at op_words code_at is_end type_at length_at value_at numbers_at strings_at text_at string_at values_at decimal_at fx_at int_at int_of fx_of is_decimal decimal_units numerator denominator raising lowering mantissa whole decimals exponent exponent_digits fraction_text magnitude_text digits int_wrap step_of is_allowed
name_of_255 = refl

name_of_256 : found (reading (after (codes "local int " ++ replicate 256 120 ++ codes "\ncode ___main___\nend\n"))) ≡ Some (fault kinds.Line 3)
unfolding reading r.opened r.headed r.named_from r.declared_from r.symbol_added r.filled_from r.code_read r.op_read r.op_named r.op_of r.range_fault r.closed r.ended told_from words saying is_hint head_at head_words symbol_at symbol_words class_at typed_words metas_at named_at start_at meta_at meta_type_at datum_of op_at op_words code_at is_end type_at length_at value_at numbers_at strings_at text_at string_at values_at decimal_at fx_at int_at int_of fx_of is_decimal decimal_units numerator denominator raising lowering mantissa whole decimals exponent exponent_digits fraction_text magnitude_text digits int_wrap step_of is_allowed
name_of_256 = refl

string_of_512 : found (reading (after (codes "const string a \"" ++ replicate 512 120 ++ codes "\"\ncode ___main___\nend\n"))) ≡ None
unfolding reading r.opened r.headed r.named_from r.declared_from r.symbol_added r.filled_from r.code_read r.op_read r.op_named r.op_of r.range_fault r.closed r.ended told_from words saying is_hint head_at head_words symbol_at symbol_words class_at typed_words metas_at named_at start_at meta_at meta_type_at datum_of op_at op_words code_at is_end type_at length_at value_at numbers_at strings_at text_at string_at values_at decimal_at fx_at int_at int_of fx_of is_decimal decimal_units numerator denominator raising lowering mantissa whole decimals exponent exponent_digits fraction_text magnitude_text digits int_wrap step_of is_allowed
string_of_512 = refl

string_of_513 : found (reading (after (codes "const string a \"" ++ replicate 513 120 ++ codes "\"\ncode ___main___\nend\n"))) ≡ Some (fault kinds.Line 3)
unfolding reading r.opened r.headed r.named_from r.declared_from r.symbol_added r.filled_from r.code_read r.op_read r.op_named r.op_of r.range_fault r.closed r.ended told_from words saying is_hint head_at head_words symbol_at symbol_words class_at typed_words metas_at named_at start_at meta_at meta_type_at datum_of op_at op_words code_at is_end type_at length_at value_at numbers_at strings_at text_at string_at values_at decimal_at fx_at int_at int_of fx_of is_decimal decimal_units numerator denominator raising lowering mantissa whole decimals exponent exponent_digits fraction_text magnitude_text digits int_wrap step_of is_allowed
string_of_513 = refl

shader_of_255 : found (reading (codes "OpenShadingLanguage 1.00\nshader " ++ replicate 255 120 ++ codes "\ncode ___main___\nend\n")) ≡ None
unfolding reading r.opened r.headed r.named_from r.declared_from r.symbol_added r.filled_from r.code_read r.op_read r.op_named r.op_of r.range_fault r.closed r.ended told_from words saying is_hint head_at head_words symbol_at symbol_words class_at typed_words metas_at named_at start_at meta_at meta_type_at datum_of op_at op_words code_at is_end type_at length_at value_at numbers_at strings_at text_at string_at values_at decimal_at fx_at int_at int_of fx_of is_decimal decimal_units numerator denominator raising lowering mantissa whole decimals exponent exponent_digits fraction_text magnitude_text digits int_wrap step_of is_allowed
shader_of_255 = refl

shader_of_256 : found (reading (codes "OpenShadingLanguage 1.00\nshader " ++ replicate 256 120 ++ codes "\ncode ___main___\nend\n")) ≡ Some (fault kinds.Header 2)
unfolding reading r.opened r.headed r.named_from r.declared_from r.symbol_added r.filled_from r.code_read r.op_read r.op_named r.op_of r.range_fault r.closed r.ended told_from words saying is_hint head_at head_words symbol_at symbol_words class_at typed_words metas_at named_at start_at meta_at meta_type_at datum_of op_at op_words code_at is_end type_at length_at value_at numbers_at strings_at text_at string_at values_at decimal_at fx_at int_at int_of fx_of is_decimal decimal_units numerator denominator raising lowering mantissa whole decimals exponent exponent_digits fraction_text magnitude_text digits int_wrap step_of is_allowed
shader_of_256 = refl

datum_of_513 : found (reading (codes "OpenShadingLanguage 1.00\nshader s %meta{string,t,\"" ++ replicate 513 120 ++ codes "\"}\ncode ___main___\nend\n")) ≡ None
unfolding reading r.opened r.headed r.named_from r.declared_from r.symbol_added r.filled_from r.code_read r.op_read r.op_named r.op_of r.range_fault r.closed r.ended told_from words saying is_hint head_at head_words symbol_at symbol_words class_at typed_words metas_at named_at start_at meta_at meta_type_at datum_of op_at op_words code_at is_end type_at length_at value_at numbers_at strings_at text_at string_at values_at decimal_at fx_at int_at int_of fx_of is_decimal decimal_units numerator denominator raising lowering mantissa whole decimals exponent exponent_digits fraction_text magnitude_text digits int_wrap step_of is_allowed
datum_of_513 = refl
