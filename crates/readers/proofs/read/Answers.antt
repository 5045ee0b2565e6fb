-- `read` meets its contract: so does the reader that it chooses.
-- Assumes nothing.
use Rattle.readers.proofs.read.Goals as goal

pub returns-in-InHtml : goal.returns-in-InHtml
returns-in-InHtml c = rw c.in-InHtml.is c.read-in-InHtml.ensures

pub returns-in-InScript : goal.returns-in-InScript
returns-in-InScript c = rw c.in-InScript.is c.read-in-InScript.ensures

pub returns-in-InStyle : goal.returns-in-InStyle
returns-in-InStyle c = rw c.in-InStyle.is c.read-in-InStyle.ensures

pub returns-in-InAscii : goal.returns-in-InAscii
returns-in-InAscii c = rw c.in-InAscii.is c.read_low.ensures
