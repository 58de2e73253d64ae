-- A replay that is fed piece by piece.
use Rattle.std.proofs.Common.{◌≡◌, ℕ, ◌+◌, List, ◌++◌, Option, Some, None, length, ap, ◌∙◌, subst, append_assoc}
use Rattle.std.specs.Prelude.{IfSome}
use Rattle.std.specs.Io.KnownBytes.{Consumes}
use Rattle.std.proofs.KnownBytes.{Consumes-trans}
use Rattle.std.proofs.lemmas.List.{length-append}
use Rattle.replayer.specs.Standing.{Replaying, StandsFor}
use Rattle.fb_cli.specs.Replay.{FedWith}

-- A replay was fed with so many bytes of these, of which the rest is left.
pub record HasRead (before now : Replaying) (taken : ℕ) (bytes : List ℕ) (rest : Option (List ℕ)) : Type 0 where
  pub text : List ℕ
  pub fed : FedWith before text now
  pub consumed : Consumes (Some bytes) rest text
  pub counted : length text ≡ taken

-- One more piece.
pub more_read :
    (file : Option (List ℕ)) (before mid now : Replaying) (taken count : ℕ) (rest left : Option (List ℕ))
    (piece : List ℕ)
    → IfSome file (λ bytes. HasRead before mid taken bytes rest) → Consumes rest left piece → length piece ≡ count
    → FedWith mid piece now
    → IfSome file (λ bytes. HasRead before now (taken + count) bytes left)
more_read None before mid now taken count rest left piece h consumed counted fed = tt
more_read (Some bytes) before mid now taken count rest left piece h consumed counted fed = record {
  text = h.text ++ piece;
  fed =
      λ text stands. subst (StandsFor now) (append_assoc text h.text piece) (fed (text ++ h.text) (h.fed text stands));
  consumed = Consumes-trans (Some bytes) rest left h.text piece h.consumed consumed;
  counted = length-append h.text piece ∙ ap (λ n. n + length piece) h.counted ∙ ap (λ n. taken + n) counted;
}
