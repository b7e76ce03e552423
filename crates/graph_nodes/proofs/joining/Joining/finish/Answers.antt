use Rattle.graph_nodes.specs.declared.joining.Stage.TheVariants.{Over, Begun}
use Rattle.graph_nodes.proofs.PartedLemmas.{ok_then}
use Rattle.graph_nodes.proofs.StageLemmas.{stage_of}
use Rattle.graph_nodes.proofs.joining.Joining.finish.Goals as goal

pub finish-requires : goal.finish-requires
finish-requires g c =
    let nodes = c.requires.begun.0 in
    let targets = c.requires.begun.1 in
    record {
      begun = (
        nodes,
        targets,
        rw c.in-Begun.batch-is
            (stage_of g.C.Crew.is_of c.args.self (Begun c.in-Begun.batch) nodes targets c.in-Begun.is c.requires.begun.2),
      );
    }

pub returns-in-Over-clause-joined : goal.returns-in-Over-clause-joined
returns-in-Over-clause-joined g c = λ nodes targets is.
    rw c.in-Over.joined-is (stage_of g.C.Crew.is_of c.args.self (Over c.in-Over.joined) nodes targets c.in-Over.is is).1

pub returns-in-Over-clause-width : goal.returns-in-Over-clause-width
returns-in-Over-clause-width g c = λ nodes targets is.
    rw c.in-Over.joined-is (stage_of g.C.Crew.is_of c.args.self (Over c.in-Over.joined) nodes targets c.in-Over.is is).0

pub returns-in-Begun-clause-joined : goal.returns-in-Begun-clause-joined
returns-in-Begun-clause-joined g c =
    ok_then c.finish.result _ _ (λ joined done nodes targets is.
    done nodes targets (rw c.in-Begun.batch-is
    (stage_of g.C.Crew.is_of c.args.self (Begun c.in-Begun.batch) nodes targets c.in-Begun.is is)))
    c.finish.ensures.joined

pub returns-in-Begun-clause-width : goal.returns-in-Begun-clause-width
returns-in-Begun-clause-width g c =
    ok_then c.finish.result _ _ (λ joined done nodes targets is.
    done nodes targets (rw c.in-Begun.batch-is
    (stage_of g.C.Crew.is_of c.args.self (Begun c.in-Begun.batch) nodes targets c.in-Begun.is is)))
    c.finish.ensures.width
