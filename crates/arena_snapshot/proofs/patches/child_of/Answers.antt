use Rattle.std.proofs.Common.{Some, Ok, Err, map, sym, ap, ◌∙◌, get_or}
use Rattle.arena_snapshot.specs.View.{node_or_null}
use Rattle.arena_snapshot.specs.Working.Changing.{child_found, child_kept}
use Rattle.arena_snapshot.specs.Working.Patches.{change_of}
use Rattle.arena_snapshot.specs.declared.view.Patch.{Patch}
use Rattle.arena_snapshot.proofs.Places.{searched}
use Rattle.arena_snapshot.proofs.patches.child_of.Goals as goal

pub returns-in-Some : goal.returns-in-Some
returns-in-Some c =
    let ps = c.args.patches.now in
    let name = c.args.name.now in
    let held : Patch = c.index-patches-index.result in
    let found = searched name ps (Ok c.in-Ok.index) c.requires.ascending c.in-Ok.ensures.bound c.in-Ok.ensures.position held in
    ap Some c.share.ensures ∙ sym c.in-Some.is ∙ sym (child_found (node_or_null c.args.base) (map change_of ps) name (get_or ps c.in-Ok.index held).child c.requires found)

pub returns-in-None : goal.returns-in-None
returns-in-None c =
    let ps = c.args.patches.now in
    let name = c.args.name.now in
    let held : Patch = c.index-patches-index.result in
    let found = searched name ps (Ok c.in-Ok.index) c.requires.ascending c.in-Ok.ensures.bound c.in-Ok.ensures.position held in
    sym c.in-None.is ∙ sym (child_found (node_or_null c.args.base) (map change_of ps) name (get_or ps c.in-Ok.index held).child c.requires found)

pub returns-in-Err : goal.returns-in-Err
returns-in-Err c =
    let ps = c.args.patches.now in
    let name = c.args.name.now in
    let none = searched name ps (Err c.in-Err.field-0) c.requires.ascending c.in-Err.ensures.bound c.in-Err.ensures.position in
    c.stored_view.ensures ∙ sym (child_kept (node_or_null c.args.base) (map change_of ps) name c.requires none)
