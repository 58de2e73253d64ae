use Rattle.bus_model.proofs.Contests
use Rattle.bus_model.proofs.settling.small_contests_settle.Goals as goal

pub returns-clause-lines : goal.returns-clause-lines
returns-clause-lines c = Contests.three_lines

pub returns-clause-settled : goal.returns-clause-settled
returns-clause-settled c = Contests.three_settled

pub returns-clause-rounds : goal.returns-clause-rounds
returns-clause-rounds c = Contests.three_rounds

pub returns-clause-alone : goal.returns-clause-alone
returns-clause-alone c = Contests.alone_rounds

pub returns-clause-ten_bits : goal.returns-clause-ten_bits
returns-clause-ten_bits c = Contests.ten_bits

pub returns-clause-ten_bits_settled : goal.returns-clause-ten_bits_settled
returns-clause-ten_bits_settled c = Contests.ten_bits_settled

pub returns-clause-ten_bits_rounds : goal.returns-clause-ten_bits_rounds
returns-clause-ten_bits_rounds c = Contests.ten_bits_rounds

pub returns-clause-no_eleventh : goal.returns-clause-no_eleventh
returns-clause-no_eleventh c = Contests.no_eleventh
