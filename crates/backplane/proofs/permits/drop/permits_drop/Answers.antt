use Rattle.std.proofs.Common.{ap, sym, ◌∙◌, ◌≡◌, ℕ}
use Rattle.std.specs.List.{list_any}
use Rattle.std.specs.Prelude.{not, option_map}
use Rattle.class_relation.specs.declared.LocalAction.{LocalAction}
use Rattle.moesi_state.specs.declared.State.{State}
use Rattle.moesi_state.specs.Outcomes.{is_invalid}
use Rattle.board.specs.Rack.{setup_of}
use Rattle.bus_model.specs.Board.{access_line, victim, wants_row}
use Rattle.bus_model.specs.Configuration.{is_connected, is_held, state_at}
use Rattle.backplane.proofs.Deciding.{as_well}
use Rattle.backplane.proofs.Planning.{rack-victim}
use Rattle.backplane.proofs.Shown.{cell_shown, state_shown}
use Rattle.backplane.proofs.Telling.{drop_told}
use Rattle.backplane.proofs.permits.drop.permits_drop.Goals as goal

pub returns : goal.returns
returns c = λ setup events x sound present.
    let board = c.args.board in
    let line = c.args.line in
    let access = c.args.access.now in
    let parts = c.args.parts.now in
    let shows = sound.shows in
    let first = option_map {U = ℕ} (λ (v : ℕ × State). v.0) in
    let wants : c.wants_row-wants.result ≡ wants_row setup x.rows board access =
    c.wants_row-wants.ensures
    ∙ ap (list_any (λ (a : LocalAction). not (is_invalid a.result)))
    (c.cell_of.ensures ∙ cell_shown setup x parts shows board access) in
    let gone : c.victim.result ≡ first (victim setup x.rows board (access_line access)) =
    c.victim.ensures ∙ ap (λ l. first (victim (setup_of parts.rack) parts.rack.rows board l)) c.line_of.ensures
    ∙ ap first (rack-victim setup x parts board (access_line access) shows) in
    let state : c.state_of.result ≡ state_at x.rows board line =
    c.state_of.ensures.state ∙ state_shown setup x parts shows board line in
    as_well c.all_hold.result _ _ c.all_hold.ensures
    (drop_told setup _ x board line c.args.before access
    c.is_connected-connected.result c.wants_row-wants.result c.is_victim-victim.result c.is_state-same.result
    c.is_clean-clean.result c.is_some-held.result
    sound.sound.rows
    (c.is_connected-connected.ensures ∙ ap (λ phase. is_connected phase board) shows.phase)
    wants
    (λ h. sym gone ∙ c.is_victim-victim.ensures.0 h, λ e. c.is_victim-victim.ensures.1 (gone ∙ e))
    (λ h. sym state ∙ c.is_state-same.ensures.0 h, λ e. c.is_state-same.ensures.1 (state ∙ e))
    c.is_clean-clean.ensures
    (c.is_some-held.ensures ∙ c.held_by.ensures.held ∙ ap (λ phase. is_held phase board line) shows.phase)
    present)
