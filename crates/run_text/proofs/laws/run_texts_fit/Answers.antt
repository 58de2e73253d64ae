use Rattle.run_text.proofs.ShortTexts
use Rattle.run_text.proofs.laws.run_texts_fit.Goals as goal

pub returns : goal.returns
returns c = ShortTexts.run_texts_fit c.journals_are_bounded.ensures
