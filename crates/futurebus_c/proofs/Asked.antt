-- Which command the words of a call ask for.
use Rattle.std.proofs.Common.{◌≡◌, ◌⊎◌, inl, inr, ℕ, ◌<◌, ◌^◌, List, [], ◌∷◌, Option, Some, ap, refl, subst, arith}
use Rattle.std.specs.Prelude.{codes, decimal}
use Rattle.std.specs.Result.{result_ok}
use Rattle.setup_text.proofs.Texts.{number_within_again}
use Rattle.fb_cli.specs.Command.{Command, Found, found, Ends, EndsAs}
use Rattle.fb_cli.specs.Output.{Output, Files}
use Rattle.fb_cli.specs.Rows.{asked, command_in, plain_rows, seed_of}
use Rattle.fb_cli.specs.Check.{check}
use Rattle.fb_cli.specs.Fileless.{make, tally}
use Rattle.fb_cli.specs.Narrow.{narrow}
use Rattle.fb_cli.specs.Replay.{replay}
use Rattle.fb_cli.specs.Run.{run, run_seeded}
use Rattle.fb_cli.specs.Show.{show}
use Rattle.fb_cli.specs.Traffic.{traffic, traffic_seeded}
use Rattle.futurebus_c.specs.Given.{Given, Answered, no_memory}

-- An output of what was found, or that memory ran out, is an output of the command that was found.
ends :
    (asked : Found) (command : Command) → asked ≡ found command → (files : Files) (o : Output)
    → EndsAs asked (Some files) ⊥ o ⊎ (o ≡ no_memory)
    → Ends command (Some files) ⊥ o
ends asked command is files o (inl does) = subst (λ a. EndsAs a (Some files) ⊥ o) is does
ends asked command is files o (inr none) = inr (inr none)

-- What is answered to words is an output of the command that they ask for.
given :
    (words : List (List ℕ)) (command : Command) → command_in plain_rows words ≡ found command
    → (files : Files) (buffer : List ℕ) (status count : ℕ)
    → Answered words files buffer status count → Given command files buffer status count
given words command is files buffer status count a =
    record {
      output = a.output;
      ends = ends (command_in plain_rows words) command is files a.output a.ends;
      given = a.given;
    }

pub check_given :
    (files : Files) (buffer : List ℕ) (status count : ℕ)
    → Answered (codes "check" ∷ codes "first" ∷ []) files buffer status count
    → Given (check (codes "first")) files buffer status count
check_given = given (codes "check" ∷ codes "first" ∷ []) (check (codes "first")) refl

pub show_given :
    (files : Files) (buffer : List ℕ) (status count : ℕ)
    → Answered (codes "show" ∷ codes "first" ∷ []) files buffer status count
    → Given (show (codes "first")) files buffer status count
show_given = given (codes "show" ∷ codes "first" ∷ []) (show (codes "first")) refl

pub narrow_given :
    (files : Files) (buffer : List ℕ) (status count : ℕ)
    → Answered (codes "narrow" ∷ codes "first" ∷ []) files buffer status count
    → Given (narrow (codes "first")) files buffer status count
narrow_given = given (codes "narrow" ∷ codes "first" ∷ []) (narrow (codes "first")) refl

pub run_given :
    (files : Files) (buffer : List ℕ) (status count : ℕ)
    → Answered (codes "run" ∷ codes "first" ∷ codes "second" ∷ []) files buffer status count
    → Given (run (codes "first") (codes "second")) files buffer status count
run_given = given (codes "run" ∷ codes "first" ∷ codes "second" ∷ []) (run (codes "first") (codes "second")) refl

pub replay_given :
    (files : Files) (buffer : List ℕ) (status count : ℕ)
    → Answered (codes "replay" ∷ codes "first" ∷ codes "second" ∷ []) files buffer status count
    → Given (replay (codes "first") (codes "second")) files buffer status count
replay_given = given (codes "replay" ∷ codes "first" ∷ codes "second" ∷ []) (replay (codes "first") (codes "second")) refl

pub traffic_given :
    (files : Files) (buffer : List ℕ) (status count : ℕ)
    → Answered (codes "traffic" ∷ codes "first" ∷ codes "second" ∷ []) files buffer status count
    → Given (traffic (codes "first") (codes "second")) files buffer status count
traffic_given = given (codes "traffic" ∷ codes "first" ∷ codes "second" ∷ []) (traffic (codes "first") (codes "second")) refl

-- The digits of a number of 64 bits are read as the number.
seed_again : (n : ℕ) → n < 2 ^ 64 → seed_of (decimal n) ≡ Some n
seed_again n small =
    ap result_ok (number_within_again 18446744073709551615 n (omega arith) (omega arith))

-- A row that read its words finds its command.
read :
    {X : Type 0} (o : Option X) (x : X) (finds : X → Found) (rest : Found) → o ≡ Some x
    → asked o finds rest ≡ finds x
read {X} o x finds rest is = ap (λ (p : Option X). asked p finds rest) is

pub make_given :
    (n : ℕ) → n < 2 ^ 64 → (files : Files) (buffer : List ℕ) (status count : ℕ)
    → Answered (codes "make" ∷ decimal n ∷ []) files buffer status count
    → Given (make n) files buffer status count
make_given n small =
    given (codes "make" ∷ decimal n ∷ []) (make n)
    (read (seed_of (decimal n)) n (λ (x : ℕ). found (make x)) _ (seed_again n small))

pub tally_given :
    (n : ℕ) → n < 2 ^ 64 → (files : Files) (buffer : List ℕ) (status count : ℕ)
    → Answered (codes "tally" ∷ decimal n ∷ []) files buffer status count
    → Given (tally n) files buffer status count
tally_given n small =
    given (codes "tally" ∷ decimal n ∷ []) (tally n)
    (read (seed_of (decimal n)) n (λ (x : ℕ). found (tally x)) _ (seed_again n small))

pub run_seeded_given :
    (n : ℕ) → n < 2 ^ 64 → (files : Files) (buffer : List ℕ) (status count : ℕ)
    → Answered (codes "run" ∷ codes "first" ∷ codes "seed" ∷ decimal n ∷ []) files buffer status count
    → Given (run_seeded (codes "first") n) files buffer status count
run_seeded_given n small =
    given (codes "run" ∷ codes "first" ∷ codes "seed" ∷ decimal n ∷ [])
    (run_seeded (codes "first") n) (rw (seed_again n small) refl)

pub traffic_seeded_given :
    (n : ℕ) → n < 2 ^ 64 → (files : Files) (buffer : List ℕ) (status count : ℕ)
    → Answered (codes "traffic" ∷ codes "first" ∷ codes "seed" ∷ decimal n ∷ []) files buffer status count
    → Given (traffic_seeded (codes "first") n) files buffer status count
traffic_seeded_given n small =
    given (codes "traffic" ∷ codes "first" ∷ codes "seed" ∷ decimal n ∷ [])
    (traffic_seeded (codes "first") n) (rw (seed_again n small) refl)
