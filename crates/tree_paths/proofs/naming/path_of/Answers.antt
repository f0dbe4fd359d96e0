use Rattle.std.proofs.Common.{inl, inr}
use Rattle.tree_paths.proofs.Found.{inside_if, plain_here, plain_aside}
use Rattle.tree_paths.proofs.naming.path_of.Goals.{in_default-via-in-Some+else-not-is_aside, in_default-via-in_default}
use Rattle.tree_paths.proofs.naming.path_of.Goals as goal

pub returns-in-Some-clause-inside : goal.returns-in-Some-clause-inside
returns-in-Some-clause-inside c =
    inside_if c.args.name.now c.in-Some.path.now c.args.is_aside c.from_str.result (plain_here c.args.name.now c.in-Some.path.now c.args.is_aside c.in-Some.ensures.0 c.in-Some.ensures.1 c.if-not-is_aside.true) c.from_str.ensures.ok

pub returns-in_default-clause-inside : goal.returns-in_default-clause-inside
returns-in_default-clause-inside c =
    inside_if c.args.name.now _ c.args.is_aside c.aside_path.result
    (plain_aside c.args.name.now c.args.is_aside (elim c.in_default.branch [ in_default-via-in-Some+else-not-is_aside w ↦ inr w.if-not-is_aside.false | in_default-via-in_default w ↦ inl w.in_default.ensures ]))
    c.aside_path.ensures
