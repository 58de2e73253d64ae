-- An audit that can be printed.
use Rattle.fb_text.specs.Written.{Written}
use Rattle.audit.specs.First.{Audit}

-- An audit, and what is printed after its events.
pub record Told : Type 0 where
  pub audit : Audit
  pub last : Written
