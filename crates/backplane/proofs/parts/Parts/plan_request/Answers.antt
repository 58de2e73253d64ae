use Rattle.std.proofs.Common.{◌≡◌, true, sym, ap, ◌∙◌}
use Rattle.bus_model.specs.Configuration.{is_raised}
use Rattle.backplane.specs.Parts.{phase_of}
use Rattle.backplane.proofs.Grants.{raised-shown, asks, waits-granted, waits-connected, grants-idle}
use Rattle.backplane.proofs.parts.Parts.plan_request.Goals as goal

pub returns-then-not-raised : goal.returns-then-not-raised
returns-then-not-raised c = λ setup events x sound s.
    asks setup x c.args.board
    (sym (raised-shown setup x c.args.self.now c.args.board s c.requires) ∙ sym c.raised.ensures.raised
    ∙ c.if-not-raised.true)

pub returns-in-Granted : goal.returns-in-Granted
returns-in-Granted c = λ setup events x sound s.
    let raised : is_raised x.boards c.args.board ≡ true =
    sym (raised-shown setup x c.args.self.now c.args.board s c.requires) ∙ sym c.raised.ensures.raised
    ∙ c.if-not-raised.false in
    waits-granted setup x c.args.board c.in-Granted.master raised (ap phase_of (sym c.in-Granted.is) ∙ s.phase)

pub returns-in-Connected : goal.returns-in-Connected
returns-in-Connected c = λ setup events x sound s.
    let raised : is_raised x.boards c.args.board ≡ true =
    sym (raised-shown setup x c.args.self.now c.args.board s c.requires) ∙ sym c.raised.ensures.raised
    ∙ c.if-not-raised.false in
    waits-connected setup x c.args.board c.in-Connected.connected raised (ap phase_of (sym c.in-Connected.is) ∙ s.phase)

pub plan_grant-requires-clause-raised : goal.plan_grant-requires-clause-raised
plan_grant-requires-clause-raised c = sym c.raised.ensures.raised ∙ c.if-not-raised.false

pub returns-in-Idle : goal.returns-in-Idle
returns-in-Idle c = λ setup events x sound s.
    let raised : is_raised x.boards c.args.board ≡ true =
    sym (raised-shown setup x c.args.self.now c.args.board s c.requires) ∙ sym c.raised.ensures.raised
    ∙ c.if-not-raised.false in
    c.plan_grant.ensures setup events x sound s
    ∙ grants-idle setup x c.args.board raised (ap phase_of (sym c.in-Idle.is) ∙ s.phase)
