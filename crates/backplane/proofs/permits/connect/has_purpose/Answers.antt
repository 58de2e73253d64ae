use Rattle.std.proofs.Common.{refl, inl, inr, true, ◌≡◌, List}
use Rattle.std.proofs.lemmas.Bool.{both_ways}
use Rattle.bus_model.specs.Setup.{Setup}
use Rattle.bus_model.specs.Events.{Event}
use Rattle.bus_model.specs.Configuration.{Configuration}
use Rattle.bus_model.specs.Steps.{Purpose}
use Rattle.backplane.specs.Permits.{SoundParts}
use Rattle.backplane.proofs.permits.connect.has_purpose.Goals as goal

pub returns-then-serves_access : goal.returns-then-serves_access
returns-then-serves_access c =
    λ setup events x sound.
    (λ h. inl ((c.serves_access.ensures setup events x sound).0 c.if-serves_access.true), λ p. refl)

pub returns : goal.returns
returns c =
    λ setup events x sound. (λ h. inr ((c.serves_victim.ensures setup events x sound).0 h), go setup events x sound)
  where
    go :
        (setup : Setup) (events : List Event) (x : Configuration) → SoundParts c.args.parts.now setup events x
        → Purpose setup x.rows c.args.connected.now c.args.access.now → c.serves_victim.result ≡ true
    go setup events x sound (inl p) =
        absurd
        (both_ways c.serves_access.result c.if-serves_access.false ((c.serves_access.ensures setup events x sound).1 p))
    go setup events x sound (inr p) = (c.serves_victim.ensures setup events x sound).1 p
