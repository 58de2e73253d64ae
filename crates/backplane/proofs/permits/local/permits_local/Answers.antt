use Rattle.std.proofs.Common.{ap, not, sym, ◌||◌, ◌∙◌, ◌≡◌}
use Rattle.std.specs.List.{list_any}
use Rattle.class_relation.specs.declared.LocalAction.{LocalAction}
use Rattle.class_relation.specs.Actions.{has_local, same_local, silently}
use Rattle.backplane.specs.Parts.{phase_of}
use Rattle.bus_model.specs.Board.{access_line, cell_of}
use Rattle.bus_model.specs.Carrying.{reply_of}
use Rattle.bus_model.specs.Configuration.{is_connected, is_held, state_at, words_at}
use Rattle.bus_model.specs.Steps.{is_quiet}
use Rattle.backplane.proofs.Alternatives.{any_local}
use Rattle.backplane.proofs.Deciding.{as_well}
use Rattle.backplane.proofs.Shown.{cell_shown, state_shown, words_shown}
use Rattle.backplane.proofs.Telling.{local_told}
use Rattle.backplane.proofs.permits.local.permits_local.Goals as goal

pub returns : goal.returns
returns c = λ setup events x sound present.
    let board = c.args.board in
    let access = c.args.access.now in
    let done = c.args.done.now in
    let parts = c.args.parts.now in
    let shows = sound.shows in
    let line : c.line_of-line.result ≡ access_line access = c.line_of-line.ensures in
    let state : c.state_of.result ≡ state_at x.rows board (access_line access) =
    c.state_of.ensures.state ∙ ap (state_at parts.rack.rows board) line
    ∙ state_shown setup x parts shows board (access_line access) in
    let cell : c.cell_of.result.now ≡ cell_of setup x.rows board access =
    c.cell_of.ensures ∙ cell_shown setup x parts shows board access in
    let alternative : c.has_local-alternative.result
    ≡ has_local (cell_of setup x.rows board access) (silently c.args.after) =
    c.has_local-alternative.ensures ∙ ap (list_any (λ (a : LocalAction). same_local a (silently c.args.after))) cell
    ∙ any_local (cell_of setup x.rows board access) (silently c.args.after) in
    let held : c.is_some-held.result ≡ is_held x.phase board (access_line access) =
    c.is_some-held.ensures ∙ c.held_by.ensures.held ∙ ap (is_held (phase_of parts.phase) board) line
    ∙ ap (λ phase. is_held phase board (access_line access)) shows.phase in
    let stays : c.may_go_on-stays.result
    ≡ (not (is_held x.phase board (access_line access)) || is_quiet access c.args.before c.args.after) =
    c.may_go_on-stays.ensures ∙ ap (λ h. not h || is_quiet access c.args.before c.args.after) held in
    let words : c.copy_words.result ≡ words_at x.rows board (access_line access) =
    c.copy_words.ensures ∙ ap (words_at parts.rack.rows board) line
    ∙ words_shown setup x parts shows board (access_line access) in
    let reply : c.reply_of.result ≡ reply_of access (words_at x.rows board (access_line access)) =
    c.reply_of.ensures ∙ ap (reply_of access) words in
    as_well c.all_hold.result _ _ c.all_hold.ensures
    (local_told setup x board access c.args.before c.args.after done
    c.is_access-present.result c.is_connected-connected.result c.is_state-same.result c.has_local-alternative.result
    c.may_go_on-stays.result c.is_reply-replied.result
    c.is_access-present.ensures
    (c.is_connected-connected.ensures ∙ ap (λ phase. is_connected phase board) shows.phase)
    (λ h. sym state ∙ c.is_state-same.ensures.0 h, λ e. c.is_state-same.ensures.1 (state ∙ e))
    alternative stays
    (λ h. c.is_reply-replied.ensures.0 h ∙ reply, λ e. c.is_reply-replied.ensures.1 (e ∙ sym reply))
    present)
