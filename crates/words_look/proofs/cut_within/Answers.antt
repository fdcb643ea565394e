-- The tests in the order in which they are made. Assumes nothing.
use mathlib.Core.Path.{sym, ap, ◌∙◌}
use Rattle.header.specs.Codes.{is_user_code}
use Rattle.words_look.specs.private.Tests.{cut_within}
use Rattle.words_look.proofs.cut_within.Goals as goal

pub returns-then-not-is_user : goal.returns-then-not-is_user
unfolding cut_within
returns-then-not-is_user c =
    let user = c.is_user in
    let is-user = sym (user.ensures ∙ ap is_user_code c.code_of-code.ensures) in
    rw (is-user, c.if-not-is_user.true)

pub returns-then-not-several : goal.returns-then-not-several
unfolding cut_within
returns-then-not-several c =
    let user = c.is_user in
    let is-user = sym (user.ensures ∙ ap is_user_code c.code_of-code.ensures) in
    let several = c.several in
    rw (is-user, c.if-not-is_user.false, sym several.ensures, c.if-not-several.true)

pub returns-then-not-is_partial : goal.returns-then-not-is_partial
unfolding cut_within
returns-then-not-is_partial c =
    let user = c.is_user in
    let is-user = sym (user.ensures ∙ ap is_user_code c.code_of-code.ensures) in
    let several = c.several in
    rw (is-user, c.if-not-is_user.false, sym several.ensures, c.if-not-several.false, sym c.is_partial.ensures, c.if-not-is_partial.true)

pub returns : goal.returns
unfolding cut_within
returns c =
    let user = c.is_user in
    let is-user = sym (user.ensures ∙ ap is_user_code c.code_of-code.ensures) in
    let several = c.several in
    rw (is-user, c.if-not-is_user.false, sym several.ensures, c.if-not-several.false, sym c.is_partial.ensures, c.if-not-is_partial.false, c.held.ensures)
