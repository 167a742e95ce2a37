-- Of specs/WordsNamed.antt: what rests on its other theorems. Assumes nothing.
use Rattle.std.specs.Prelude.{◌≡◌, true}
use Rattle.std.proofs.Math.Path.{sym, ap}
use Rattle.std.proofs.Common.{◌∙◌}
use Prim.Native.Nat.{ℕ, suc, ◌+◌, ◌*◌, ◌≤◌, ◌<◌}
use native.Mathlib.Omega.{arith}
use mathlib.Core.List.{List, [], ◌∷◌, ◌++◌}
use Rattle.std.proofs.Math.ListN.{length, get_or, length-append, get_or-append}
use Rattle.std.proofs.Math.Seq.{get_or-append_seam}
use Rattle.records.specs.Empty.{no_session, no_tree, no_open, no_lock, no_file, no_name}
use Rattle.records.specs.declared.File.{File}
use Rattle.tables.specs.Words.{word, part, name_array, in_use_fit, tables_of}
use Rattle.tables.specs.PartLaws.{length_part}
use Rattle.tables.specs.ArrayLaws.{file-at}
use Rattle.tables.specs.FitLaws.{sessions-faithful, trees-faithful, opens-faithful, locks-faithful, names-faithful}
use Rattle.demands.specs.WordsNamed.{LockNamed, NameNamed, Named, OpenNamed, SessionNamed, TreeNamed, fits, of-record, of_part}

module _ (w : List ℕ) (long : length w ≡ 1605) (e : in_use_fit w ≡ true) where
  pub session-words : (i : ℕ) → i < word w 0 → i < 16 → SessionNamed w i (get_or (tables_of w).sessions i no_session)
  unfolding tables_of
  session-words i h below =
      let count = of_part w 0 33 0 0 (omega arith) (omega arith) in
      let same = sessions-faithful (part w 0 33) i (length_part w 0 33 (omega arith)) (fits w long e).0 (omega arith) in
      record {
        uid = ap (λ (l : List ℕ). word l 0) same ∙ of-record w 0 33 2 i 0 (1 + 2 * i) (omega arith) (omega arith) (omega arith);
        connection = ap (λ (l : List ℕ). word l 1) same ∙ of-record w 0 33 2 i 1 (2 + 2 * i) (omega arith) (omega arith) (omega arith);
      }

  pub tree-words : (i : ℕ) → i < word w 33 → i < 32 → TreeNamed w i (get_or (tables_of w).trees i no_tree)
  unfolding tables_of
  tree-words i h below =
      let count = of_part w 33 97 0 33 (omega arith) (omega arith) in
      let same = trees-faithful (part w 33 97) i (length_part w 33 97 (omega arith)) (fits w long e).1 (omega arith) in
      record {
        tid = ap (λ (l : List ℕ). word l 0) same ∙ of-record w 33 97 3 i 0 (34 + 3 * i) (omega arith) (omega arith) (omega arith);
        uid = ap (λ (l : List ℕ). word l 1) same ∙ of-record w 33 97 3 i 1 (35 + 3 * i) (omega arith) (omega arith) (omega arith);
        right = ap (λ (l : List ℕ). word l 2) same ∙ of-record w 33 97 3 i 2 (36 + 3 * i) (omega arith) (omega arith) (omega arith);
      }

  pub open-words : (i : ℕ) → i < word w 130 → i < 64 → OpenNamed w i (get_or (tables_of w).opens i no_open)
  unfolding tables_of
  open-words i h below =
      let count = of_part w 130 577 0 130 (omega arith) (omega arith) in
      let same = opens-faithful (part w 130 577) i (length_part w 130 577 (omega arith)) (fits w long e).2 (omega arith) in
      record {
        fid = ap (λ (l : List ℕ). word l 0) same ∙ of-record w 130 577 9 i 0 (131 + 9 * i) (omega arith) (omega arith) (omega arith);
        uid = ap (λ (l : List ℕ). word l 1) same ∙ of-record w 130 577 9 i 1 (132 + 9 * i) (omega arith) (omega arith) (omega arith);
        tid = ap (λ (l : List ℕ). word l 2) same ∙ of-record w 130 577 9 i 2 (133 + 9 * i) (omega arith) (omega arith) (omega arith);
        process = ap (λ (l : List ℕ). word l 3) same ∙ of-record w 130 577 9 i 3 (134 + 9 * i) (omega arith) (omega arith) (omega arith);
        file = ap (λ (l : List ℕ). word l 4) same ∙ of-record w 130 577 9 i 4 (135 + 9 * i) (omega arith) (omega arith) (omega arith);
        access = ap (λ (l : List ℕ). word l 5) same ∙ of-record w 130 577 9 i 5 (136 + 9 * i) (omega arith) (omega arith) (omega arith);
        sharing = ap (λ (l : List ℕ). word l 6) same ∙ of-record w 130 577 9 i 6 (137 + 9 * i) (omega arith) (omega arith) (omega arith);
        read = ap (λ (l : List ℕ). word l 7) same ∙ of-record w 130 577 9 i 7 (138 + 9 * i) (omega arith) (omega arith) (omega arith);
        seen = ap (λ (l : List ℕ). word l 8) same ∙ of-record w 130 577 9 i 8 (139 + 9 * i) (omega arith) (omega arith) (omega arith);
      }

  pub lock-words : (i : ℕ) → i < word w 707 → i < 128 → LockNamed w i (get_or (tables_of w).locks i no_lock)
  unfolding tables_of
  lock-words i h below =
      let count = of_part w 707 641 0 707 (omega arith) (omega arith) in
      let same = locks-faithful (part w 707 641) i (length_part w 707 641 (omega arith)) (fits w long e).3 (omega arith) in
      record {
        fid = ap (λ (l : List ℕ). word l 0) same ∙ of-record w 707 641 5 i 0 (708 + 5 * i) (omega arith) (omega arith) (omega arith);
        process = ap (λ (l : List ℕ). word l 1) same ∙ of-record w 707 641 5 i 1 (709 + 5 * i) (omega arith) (omega arith) (omega arith);
        offset = ap (λ (l : List ℕ). word l 2) same ∙ of-record w 707 641 5 i 2 (710 + 5 * i) (omega arith) (omega arith) (omega arith);
        length = ap (λ (l : List ℕ). word l 3) same ∙ of-record w 707 641 5 i 3 (711 + 5 * i) (omega arith) (omega arith) (omega arith);
        shared = ap (λ (l : List ℕ). word l 4) same ∙ of-record w 707 641 5 i 4 (712 + 5 * i) (omega arith) (omega arith) (omega arith);
      }

  pub name-words : (i : ℕ) → i < word w 1380 → i < 16 → NameNamed w i (get_or (tables_of w).names i no_name)
  unfolding tables_of
  name-words i h below =
      let count = of_part w 1380 225 0 1380 (omega arith) (omega arith) in
      let full = length_part w 1380 225 (omega arith) in
      let n = get_or (name_array (part w 1380 225)) i no_name in
      let same = names-faithful (part w 1380 225) i full (fits w long e).4 (omega arith) in
      let here : (1 + 14 * i) + 14 ≤ length (part w 1380 225) = omega arith in
      let long : suc (length (n.text ++ (n.file ∷ []))) ≡ 14 = ap length same ∙ length_part (part w 1380 225) (1 + 14 * i) 14 here in
      let text-and-file = length-append n.text (n.file ∷ []) in
      let twelve : length n.text ≡ 12 = omega arith in
      record {
        length = ap (λ (l : List ℕ). word l 0) same ∙ of-record w 1380 225 14 i 0 (1381 + 14 * i) (omega arith) (omega arith) (omega arith);
        text = λ j few.
            let inside : j < length n.text = omega arith in
            sym (get_or-append n.text (n.file ∷ []) 0 j inside)
            ∙ ap (λ (l : List ℕ). word l (suc j)) same
            ∙ of-record w 1380 225 14 i (suc j) (1382 + j + 14 * i) (omega arith) (omega arith) (omega arith);
        file =
            sym (get_or-append_seam n.text n.file [] 0)
            ∙ ap (word (n.text ++ (n.file ∷ []))) twelve
            ∙ ap (λ (l : List ℕ). word l 13) same
            ∙ of-record w 1380 225 14 i 13 (1394 + 14 * i) (omega arith) (omega arith) (omega arith);
      }

  -- each field is the word that the header has for it
  pub words-named : Named w
  unfolding tables_of
  words-named =
      record {
        session-count = of_part w 0 33 0 0 (omega arith) (omega arith);
        sessions = session-words;
        tree-count = of_part w 33 97 0 33 (omega arith) (omega arith);
        trees = tree-words;
        open-count = of_part w 130 577 0 130 (omega arith) (omega arith);
        opens = open-words;
        lock-count = of_part w 707 641 0 707 (omega arith) (omega arith);
        locks = lock-words;
        sizes = λ i h. ap (λ (f : File). f.size) (file-at (part w 1348 32) i no_file h) ∙ of_part w 1348 32 (2 * i) (1348 + 2 * i) (omega arith) (omega arith);
        changes = λ i h. ap (λ (f : File). f.changes) (file-at (part w 1348 32) i no_file h) ∙ of_part w 1348 32 (2 * i + 1) (1349 + 2 * i) (omega arith) (omega arith);
        name-count = of_part w 1380 225 0 1380 (omega arith) (omega arith);
        names = name-words;
      }
