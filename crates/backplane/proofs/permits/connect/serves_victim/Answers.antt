use Rattle.std.proofs.Common.{ap, sym, ◌∙◌, ◌≡◌, ℕ}
use Rattle.std.specs.List.{list_any}
use Rattle.std.specs.Prelude.{not, option_map}
use Rattle.moesi_state.specs.declared.State.{State}
use Rattle.moesi_state.specs.Outcomes.{is_invalid}
use Rattle.moesi_state.specs.States.{owns}
use Rattle.class_relation.specs.declared.LocalAction.{LocalAction}
use Rattle.board.specs.Rack.{setup_of}
use Rattle.bus_model.specs.Board.{access_line, victim, wants_row}
use Rattle.bus_model.specs.Configuration.{state_at}
use Rattle.backplane.proofs.Connecting.{flush_told, invalid_is}
use Rattle.backplane.proofs.Deciding.{as_well}
use Rattle.backplane.proofs.Planning.{rack-victim}
use Rattle.backplane.proofs.Shown.{cell_shown, state_shown}
use Rattle.backplane.proofs.permits.connect.serves_victim.Goals as goal

pub returns : goal.returns
returns c = λ setup events x sound.
    let t = c.args.connected.now in
    let access = c.args.access.now in
    let parts = c.args.parts.now in
    let shows = sound.shows in
    let first = option_map {U = ℕ} (λ (v : ℕ × State). v.0) in
    let wants : c.wants_row-wants.result ≡ wants_row setup x.rows t.master access =
    c.wants_row-wants.ensures
    ∙ ap (list_any (λ (a : LocalAction). not (is_invalid a.result)))
    (c.cell_of.ensures ∙ cell_shown setup x parts shows t.master access) in
    let gone : c.victim.result ≡ first (victim setup x.rows t.master (access_line access)) =
    c.victim.ensures ∙ ap (λ l. first (victim (setup_of parts.rack) parts.rack.rows t.master l)) c.line_of.ensures
    ∙ ap first (rack-victim setup x parts t.master (access_line access) shows) in
    let owned : c.owns-owned.result ≡ owns (state_at x.rows t.master t.line) =
    c.owns-owned.ensures ∙ ap owns (c.state_of.ensures.state ∙ state_shown setup x parts shows t.master t.line) in
    as_well c.all_hold.result _ _ c.all_hold.ensures
    (flush_told setup _ x t access c.wants_row-wants.result c.is_victim-victim.result c.owns-owned.result
    c.is_event-flushes.result c.is_invalid-given_up.result
    sound.sound.rows wants
    (λ h. sym gone ∙ c.is_victim-victim.ensures.0 h, λ e. c.is_victim-victim.ensures.1 (gone ∙ e))
    owned c.is_event-flushes.ensures
    (as_well c.is_invalid-given_up.result _ _ c.is_invalid-given_up.ensures (invalid_is t.outcome)))
