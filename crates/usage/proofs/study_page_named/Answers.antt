use Rattle.std.proofs.Common.{refl}
use Rattle.usage.proofs.study_page_named.Goals as goal

pub returns-in-audit : goal.returns-in-audit
returns-in-audit c = rw c.in-audit.is refl
