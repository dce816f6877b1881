-- Which job the words of the command line ask for: each argument at the ends of its range and one past them, in each form, and arguments that do not go together.
use Rattle.std.proofs.Common.{◌≡◌, ℕ, refl}
use Rattle.std.specs.Prelude.{Bool, true, false, List, [], ◌∷◌, codes, map, Option, None, Some}
use Rattle.std.specs.Str.{chars}
use Rattle.clap.specs.Faults.{walk_fault, defaults_fault, flags_fault}
use Rattle.clap.specs.Walk.{walked}
use Rattle.osl_words.specs.Arguments.{matched}
use Rattle.osl_words.specs.Words.{job_of}
use Rattle.osl_words.specs.declared.job.Job.{Job}
use Rattle.osl_words.specs.declared.job.Job.TheVariants as job

-- a job over the group g and the points p
abbrev shade : Option (List ℕ) → ℕ → ℕ → Bool → Bool → Bool → Option Job
shade edits workers budget settle serial from_oso = Some (job.Shade (record {
  group = codes "g";
  points = codes "p";
  edits = edits;
  workers = workers;
  budget = budget;
  settle = settle;
  serial = serial;
  from_oso = from_oso;
}))

abbrev by_default : Option Job
by_default = shade None 4 65536 false false false

-- no command, and words that are none
no_command : map job_of
    ([]
    ∷ (codes "demos" ∷ codes "7" ∷ [])
    ∷ (codes "Demo" ∷ codes "7" ∷ [])
    ∷ (codes "shade" ∷ [])
    ∷ (codes "--help" ∷ [])
    ∷ (codes "help" ∷ []) ∷ [])
    ≡ (None
    ∷ None
    ∷ None
    ∷ None
    ∷ None
    ∷ None ∷ [])
unfolding matched walk_fault walked defaults_fault flags_fault chars
no_command = refl

-- `demo N`, from 1 to 256
demos : map job_of
    ((codes "demo" ∷ codes "1" ∷ [])
    ∷ (codes "demo" ∷ codes "256" ∷ [])
    ∷ (codes "demo" ∷ codes "007" ∷ [])
    ∷ (codes "demo" ∷ codes "+7" ∷ [])
    ∷ (codes "demo" ∷ codes "0" ∷ [])
    ∷ (codes "demo" ∷ codes "257" ∷ [])
    ∷ (codes "demo" ∷ codes "-7" ∷ [])
    ∷ (codes "demo" ∷ codes "7.0" ∷ [])
    ∷ (codes "demo" ∷ codes "seven" ∷ [])
    ∷ (codes "demo" ∷ [])
    ∷ (codes "demo" ∷ codes "7" ∷ codes "8" ∷ []) ∷ [])
    ≡ (Some (job.Demo 1)
    ∷ Some (job.Demo 256)
    ∷ Some (job.Demo 7)
    ∷ Some (job.Demo 7)
    ∷ None
    ∷ None
    ∷ None
    ∷ None
    ∷ None
    ∷ None
    ∷ None ∷ [])
unfolding matched walk_fault walked defaults_fault flags_fault chars
demos = refl

-- `demo-text N`, likewise
demo_texts : map job_of
    ((codes "demo-text" ∷ codes "1" ∷ [])
    ∷ (codes "demo-text" ∷ codes "256" ∷ [])
    ∷ (codes "demo-text" ∷ codes "0" ∷ [])
    ∷ (codes "demo-text" ∷ codes "257" ∷ [])
    ∷ (codes "demo-text" ∷ []) ∷ [])
    ≡ (Some (job.DemoText 1)
    ∷ Some (job.DemoText 256)
    ∷ None
    ∷ None
    ∷ None ∷ [])
unfolding matched walk_fault walked defaults_fault flags_fault chars
demo_texts = refl

-- `oslc IN OUT`
compiles : map job_of
    ((codes "oslc" ∷ codes "a" ∷ codes "b" ∷ [])
    ∷ (codes "oslc" ∷ codes "b" ∷ codes "a" ∷ [])
    ∷ (codes "oslc" ∷ codes "a" ∷ [])
    ∷ (codes "oslc" ∷ codes "a" ∷ codes "b" ∷ codes "c" ∷ [])
    ∷ (codes "oslc" ∷ []) ∷ [])
    ≡ (Some (job.Oslc (codes "a") (codes "b"))
    ∷ Some (job.Oslc (codes "b") (codes "a"))
    ∷ None
    ∷ None
    ∷ None ∷ [])
unfolding matched walk_fault walked defaults_fault flags_fault chars
compiles = refl

-- `shade GROUP POINTS`, with no options, and with each
shades : map job_of
    ((codes "shade" ∷ codes "g" ∷ codes "p" ∷ [])
    ∷ (codes "shade" ∷ codes "g" ∷ [])
    ∷ (codes "shade" ∷ codes "g" ∷ codes "p" ∷ codes "q" ∷ [])
    ∷ (codes "shade" ∷ codes "g" ∷ codes "p" ∷ codes "--edits" ∷ codes "e" ∷ [])
    ∷ (codes "shade" ∷ codes "--edits" ∷ codes "e" ∷ codes "g" ∷ codes "p" ∷ [])
    ∷ (codes "shade" ∷ codes "g" ∷ codes "p" ∷ codes "--edits" ∷ [])
    ∷ (codes "shade" ∷ codes "g" ∷ codes "p" ∷ codes "--settle" ∷ [])
    ∷ (codes "shade" ∷ codes "g" ∷ codes "p" ∷ codes "--serial" ∷ [])
    ∷ (codes "shade" ∷ codes "g" ∷ codes "--serial" ∷ codes "p" ∷ []) ∷ [])
    ≡ (by_default
    ∷ None
    ∷ None
    ∷ shade (Some (codes "e")) 4 65536 false false false
    ∷ shade (Some (codes "e")) 4 65536 false false false
    ∷ None
    ∷ shade None 4 65536 true false false
    ∷ shade None 4 65536 false true false
    ∷ shade None 4 65536 false true false ∷ [])
unfolding matched walk_fault walked defaults_fault flags_fault chars
shades = refl

-- from 1 to 16
workers : map job_of
    ((codes "shade" ∷ codes "g" ∷ codes "p" ∷ codes "--workers" ∷ codes "1" ∷ [])
    ∷ (codes "shade" ∷ codes "g" ∷ codes "p" ∷ codes "--workers" ∷ codes "16" ∷ [])
    ∷ (codes "shade" ∷ codes "g" ∷ codes "p" ∷ codes "--workers=8" ∷ [])
    ∷ (codes "shade" ∷ codes "g" ∷ codes "p" ∷ codes "--workers" ∷ codes "0" ∷ [])
    ∷ (codes "shade" ∷ codes "g" ∷ codes "p" ∷ codes "--workers" ∷ codes "17" ∷ [])
    ∷ (codes "shade" ∷ codes "g" ∷ codes "p" ∷ codes "--workers" ∷ codes "x" ∷ [])
    ∷ (codes "shade" ∷ codes "g" ∷ codes "p" ∷ codes "--workers" ∷ []) ∷ [])
    ≡ (shade None 1 65536 false false false
    ∷ shade None 16 65536 false false false
    ∷ shade None 8 65536 false false false
    ∷ None
    ∷ None
    ∷ None
    ∷ None ∷ [])
unfolding matched walk_fault walked defaults_fault flags_fault chars
workers = refl

-- from 1 to 1,000,000
budgets : map job_of
    ((codes "shade" ∷ codes "g" ∷ codes "p" ∷ codes "--budget" ∷ codes "1" ∷ [])
    ∷ (codes "shade" ∷ codes "g" ∷ codes "p" ∷ codes "--budget" ∷ codes "1000000" ∷ [])
    ∷ (codes "shade" ∷ codes "g" ∷ codes "p" ∷ codes "--budget" ∷ codes "0" ∷ [])
    ∷ (codes "shade" ∷ codes "g" ∷ codes "p" ∷ codes "--budget" ∷ codes "1000001" ∷ []) ∷ [])
    ≡ (shade None 4 1 false false false
    ∷ shade None 4 1000000 false false false
    ∷ None
    ∷ None ∷ [])
unfolding matched walk_fault walked defaults_fault flags_fault chars
budgets = refl

-- sources, or oso texts
shaders : map job_of
    ((codes "shade" ∷ codes "g" ∷ codes "p" ∷ codes "--from" ∷ codes "osl" ∷ [])
    ∷ (codes "shade" ∷ codes "g" ∷ codes "p" ∷ codes "--from" ∷ codes "oso" ∷ [])
    ∷ (codes "shade" ∷ codes "g" ∷ codes "p" ∷ codes "--from" ∷ codes "os" ∷ [])
    ∷ (codes "shade" ∷ codes "g" ∷ codes "p" ∷ codes "--from" ∷ codes "OSO" ∷ [])
    ∷ (codes "shade" ∷ codes "g" ∷ codes "p" ∷ codes "--from" ∷ []) ∷ [])
    ≡ (by_default
    ∷ shade None 4 65536 false false true
    ∷ None
    ∷ None
    ∷ None ∷ [])
unfolding matched walk_fault walked defaults_fault flags_fault chars
shaders = refl

-- one thread settles nothing and has no workers, and no file is named as the flag is
together : map job_of
    ((codes "shade" ∷ codes "g" ∷ codes "p" ∷ codes "--serial" ∷ codes "--settle" ∷ [])
    ∷ (codes "shade" ∷ codes "g" ∷ codes "p" ∷ codes "--serial" ∷ codes "--workers" ∷ codes "1" ∷ [])
    ∷ (codes "shade" ∷ codes "g" ∷ codes "p" ∷ codes "--serial" ∷ codes "--budget" ∷ codes "7" ∷ [])
    ∷ (codes "shade" ∷ codes "g" ∷ codes "p" ∷ codes "--settle" ∷ codes "--workers" ∷ codes "2" ∷ [])
    ∷ (codes "shade" ∷ codes "--" ∷ codes "--serial" ∷ codes "p" ∷ [])
    ∷ (codes "shade" ∷ codes "g" ∷ codes "--" ∷ codes "--serial" ∷ [])
    ∷ (codes "shade" ∷ codes "g" ∷ codes "p" ∷ codes "--edits=--serial" ∷ [])
    ∷ (codes "shade" ∷ codes "g" ∷ codes "p" ∷ codes "--settle" ∷ codes "--edits=e" ∷ []) ∷ [])
    ≡ (None
    ∷ None
    ∷ shade None 4 7 false true false
    ∷ shade None 2 65536 true false false
    ∷ None
    ∷ None
    ∷ None
    ∷ shade (Some (codes "e")) 4 65536 true false false ∷ [])
unfolding matched walk_fault walked defaults_fault flags_fault chars
together = refl

-- options that there are not, and options twice
unknown : map job_of
    ((codes "shade" ∷ codes "g" ∷ codes "p" ∷ codes "--verbose" ∷ [])
    ∷ (codes "shade" ∷ codes "g" ∷ codes "p" ∷ codes "-s" ∷ [])
    ∷ (codes "shade" ∷ codes "g" ∷ codes "p" ∷ codes "--workers" ∷ codes "2" ∷ codes "--workers" ∷ codes "3" ∷ [])
    ∷ (codes "shade" ∷ codes "g" ∷ codes "p" ∷ codes "--serial" ∷ codes "--serial" ∷ [])
    ∷ (codes "shade" ∷ codes "g" ∷ codes "p" ∷ codes "--serial=true" ∷ []) ∷ [])
    ≡ (None
    ∷ None
    ∷ None
    ∷ None
    ∷ None ∷ [])
unfolding matched walk_fault walked defaults_fault flags_fault chars
unknown = refl
