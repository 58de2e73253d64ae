use Rattle.std.proofs.Common.{Some, ap, length, not, sym, arith, ◌||◌, ◌∙◌, ◌≡◌, ℕ}
use Rattle.std.specs.List.{list_any}
use Rattle.std.specs.Prelude.{is_some, option_map}
use Rattle.moesi_state.specs.declared.State.{State}
use Rattle.moesi_state.specs.Outcomes.{is_invalid}
use Rattle.class_relation.specs.declared.LocalAction.{LocalAction}
use Rattle.class_relation.specs.Actions.{has_local, same_local}
use Rattle.bus_model.specs.Board.{access_line, cell_of, is_full}
use Rattle.backplane.proofs.Alternatives.{any_local}
use Rattle.backplane.proofs.Connecting.{access_told, full_is}
use Rattle.backplane.proofs.Deciding.{as_well}
use Rattle.backplane.proofs.Planning.{rack-victim}
use Rattle.backplane.proofs.Shown.{cell_shown}
use Rattle.backplane.proofs.permits.connect.serves_access.Goals as goal

pub returns : goal.returns
returns c = λ setup events x sound.
    let t = c.args.connected.now in
    let access = c.args.access.now in
    let parts = c.args.parts.now in
    let shows = sound.shows in
    let action : LocalAction = record { result = t.outcome; bus = Some t.event } in
    let line : c.line_of.result ≡ access_line access = c.line_of.ensures in
    let cell : c.cell_of.result.now ≡ cell_of setup x.rows t.master access =
    c.cell_of.ensures ∙ cell_shown setup x parts shows t.master access in
    let alternative : c.has_local-alternative.result ≡ has_local (cell_of setup x.rows t.master access) action =
    c.has_local-alternative.ensures ∙ ap (list_any (λ (a : LocalAction). same_local a action)) cell
    ∙ any_local (cell_of setup x.rows t.master access) action in
    let low = c.requires.low in
    let high = c.requires.rack in
    let boards = ap length shows.boards in
    let full : c.is_some-full.result ≡ is_full setup x.rows t.master t.line =
    c.is_some-full.ensures
    ∙ ap is_some (c.victim.ensures
    ∙ ap (option_map {U = ℕ} (λ (v : ℕ × State). v.0)) (rack-victim setup x parts t.master t.line shows))
    ∙ full_is setup x.rows t.master t.line sound.fits (record { low = low; high = omega arith }) in
    as_well c.all_hold.result _ _ c.all_hold.ensures
    (access_told setup x.rows t access c.is_line-line.result c.has_local-alternative.result c.has_room-room.result
    (λ h. c.is_line-line.ensures.0 h ∙ line, λ e. c.is_line-line.ensures.1 (e ∙ sym line))
    alternative
    (c.has_room-room.ensures ∙ ap (λ f. not f || is_invalid t.outcome) full))
